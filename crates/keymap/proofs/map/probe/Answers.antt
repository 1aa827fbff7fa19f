use Rattle.std.proofs.Common.{sym, ap, ◌∙◌, arith}
use Rattle.std.specs.Option.{option_map}
use Rattle.keymap.proofs.Seeks.{slot_after, slot_before, slot_empty}
use Rattle.keymap.proofs.map.probe.Goals as goal

pub returns-then-n-eq0-clause-found : goal.returns-then-n-eq0-clause-found
returns-then-n-eq0-clause-found g c = slot_empty _ _ _ _ (omega arith)

pub returns-in-Some-clause-found : goal.returns-in-Some-clause-found
returns-in-Some-clause-found g c =
    slot_after _ _ _ _ _ c.hash.ensures (omega arith) _ _ c.split_at.ensures.front c.split_at.ensures.back _ (sym c.first_end.ensures.place ∙ ap (option_map (λ r. r.0)) c.in-Some.is)

pub returns-in-None-clause-found : goal.returns-in-None-clause-found
returns-in-None-clause-found g c =
    c.first_end-in-None.ensures.place
    ∙ slot_before _ _ _ _ _ c.hash.ensures (omega arith) _ _ c.split_at.ensures.front c.split_at.ensures.back
    (sym c.first_end.ensures.place ∙ ap (option_map (λ r. r.0)) c.in-None.is)
