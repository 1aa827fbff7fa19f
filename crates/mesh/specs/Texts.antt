-- What `{}` prints of an inspection's answers.
use Rattle.std.specs.Prelude.{ℕ, List, ◌++◌, codes}
use Rattle.std.specs.Fmt.{decimal, signed_decimal}
use Rattle.mesh.specs.declared.verdicts.Counts.{Counts}
use Rattle.mesh.specs.declared.verdicts.Verdict.{Verdict}
use Rattle.mesh.specs.declared.verdicts.Verdict.TheVariants.{Misnamed, Doubled, Unpaired, Bare, Torn, Sound}

-- the counts of a sound mesh, each after its sign or its name
abbrev pub counts_text : Counts → List ℕ
counts_text c =
    codes "V " ++ decimal c.vertices ++ codes " E " ++ decimal c.edges ++ codes " F " ++ decimal c.triangles
    ++ codes ", Euler number " ++ signed_decimal c.euler ++ codes ", parts " ++ decimal c.parts

-- the fault, by its number, with its place, or that there is none, with the counts
abbrev pub verdict_text : Verdict → List ℕ
verdict_text (Misnamed triangle) = codes "fault 1, triangle " ++ decimal triangle ++ codes " names a wrong vertex or one twice"
verdict_text (Doubled triangle) = codes "fault 2, triangle " ++ decimal triangle ++ codes " has a directed edge of an earlier one"
verdict_text (Unpaired triangle) = codes "fault 3, triangle " ++ decimal triangle ++ codes " has a directed edge without its reverse"
verdict_text (Bare vertex) = codes "fault 4, vertex " ++ decimal vertex ++ codes " has no triangle"
verdict_text (Torn vertex) = codes "fault 5, the triangles at vertex " ++ decimal vertex ++ codes " form more than one ring"
verdict_text (Sound counts) = codes "sound, " ++ counts_text counts
