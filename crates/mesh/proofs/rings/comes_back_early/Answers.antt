use Rattle.std.proofs.Common.{◌≡◌, ℕ, sym, refl, ap, ◌∙◌, ⊎_elim, arith, rules}
use Rattle.std.proofs.lemmas.Bool.{cases_eq}
use Rattle.mesh.specs.EdgeTables.{turn, after}
use Rattle.mesh.proofs.Walks.{after_more}
use Rattle.mesh.proofs.rings.comes_back_early.Goals as goal

pub loop-init : goal.loop-init
unfolding after
loop-init c = (refl, λ m p q e. omega arith)

pub loop-preserved : goal.loop-preserved
loop-preserved c =
    let go : ℕ → ℕ = turn c.args.map.now.entries.now c.args.v in
    let i = c.loop.counter in
    let s = c.args.start in
    let e : c.unwrap_or-at.result ≡ after go i s = search rules in (
      ap go e ∙ sym (after_more go i s),
      λ m p q z. ⊎_elim
          (λ w. c.if-at-start.false (e ∙ ap (λ (n : ℕ). after go n s) (sym w) ∙ z))
          (λ o. c.loop.invariant.1 m p (omega arith) z)
          (cases_eq m i),
    )
