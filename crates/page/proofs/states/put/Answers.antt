use Rattle.std.proofs.Common.{ℕ, ◌++◌, List, length, drop, zero-add, sym, ap, ◌∙◌, arith}
use lib.Seq.{sets-eq}
use Rattle.page.proofs.states.put.Goals as goal

pub returns : goal.returns
returns c =
    let text = c.args.text.now in
    let part = c.args.part.now in
    ap (λ (z : List ℕ). z ++ drop (length text) part) c.copy_from_slice.ensures.after
    ∙ ap (λ (n : ℕ). text ++ drop n part) (sym (zero-add (length text)))
    ∙ sym (sets-eq text part 0 (omega arith))
