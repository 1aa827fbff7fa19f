use Rattle.std.proofs.Common.{◌++◌, append_assoc, rules}
use Rattle.std.proofs.lemmas.Grind.{put_two}
use Rattle.std.specs.Prelude.{codes}
use Rattle.std.specs.Fmt.{HasWritten, decimal, signed_decimal}
use Rattle.mesh.proofs.verdicts.CountsDisplay.fmt.Goals as goal

pub returns-clause-writes : goal.returns-clause-writes
returns-clause-writes g c plain ok =
    let n = c.args.self.now in
    let sizes : HasWritten g.W.Write.write_str_gives c.args.f.now
    (codes "V " ++ (decimal n.vertices ++ (codes " E " ++ (decimal n.edges ++ (codes " F " ++ decimal n.triangles)))))
    c.write.new.self = c.write.ensures.writes plain (search rules) in
    let others : HasWritten g.W.Write.write_str_gives c.write.new.self
    (codes ", Euler number " ++ (signed_decimal n.euler ++ (codes ", parts " ++ decimal n.parts)))
    c.write-2.new.self = (let now = sizes.plain in search rules) in
    put_two _ _ _ _ _ _ _ sizes others (simp append_assoc)
