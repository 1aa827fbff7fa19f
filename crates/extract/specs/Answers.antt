-- What a call that needs memory answers.
use Rattle.std.specs.Prelude.{◌≡◌, List, ℕ, Ok, Err, Result}
use Rattle.std.specs.Global.{Vec}
use Rattle.refusal.specs.declared.refusals.Refusal.{Refusal}
use Rattle.extract.specs.declared.failures.Failure.{Failure}
use Rattle.extract.specs.declared.failures.Failure.TheVariants.{Refused, Memory}

-- the text or the refusal that is due, unless memory is short
abbrev pub Answers : Result (List ℕ) Refusal → Result (Vec ℕ) Failure → Type 0
Answers due (Ok v) = due ≡ Ok v.items
Answers due (Err (Refused e)) = due ≡ Err e
Answers due (Err (Memory e)) = Unit
