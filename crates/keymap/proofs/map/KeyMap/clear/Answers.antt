use Rattle.std.proofs.Common.{◌≡◌, [], ◌∷◌, ◌++◌, None, length, replicate, sym, refl, ap, ◌∙◌, arith}
use Rattle.std.proofs.lemmas.List.{take_more_set, replicate_more, take_all}
use Rattle.keymap.proofs.map.KeyMap.clear.Goals as goal

pub loop-entry-init : goal.loop-entry-init
loop-entry-init g c = refl

pub loop-entry-preserved : goal.loop-entry-preserved
loop-entry-preserved g c =
    take_more_set _ _ _ (omega arith) ∙ ap (λ xs. xs ++ None ∷ []) c.loop-entry.invariant ∙ replicate_more _ _

pub returns-clause-free : goal.returns-clause-free
returns-clause-free g c =
    let e : c.loop-entry.entry-index ≡ length c.args.self.now.entries.now = omega arith in
    sym (take_all c.loop-entry.entry-index c.loop-entry.entry-items (omega arith)) ∙ c.loop-entry.invariant ∙ ap (λ n. replicate n None) e
