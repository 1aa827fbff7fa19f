use Rattle.std.proofs.Common.{ℕ, length, replicate, None, ap, ◌∙◌}
use Rattle.surface.specs.States.{numbering}
use Rattle.surface.proofs.Begun.{tied_start}
use Rattle.surface.proofs.tables.Numbering.over.Goals as goal

pub invariant_of-result : goal.invariant_of-result
invariant_of-result c = record { tied = tied_start c.clear.new.self.entries.now (length c.over-map.result.entries.now) c.over.result.items.now c.over.result.count c.clear.ensures.free c.over.ensures.count }

pub returns : goal.returns
returns c =
    let es = c.clear.ensures.free ∙ ap (λ (n : ℕ). replicate n None) (ap length c.over-map.ensures.value) in
    (λ i. numbering (es i) (c.over.ensures.items i) (c.over.ensures.count i))
