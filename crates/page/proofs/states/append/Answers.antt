use Rattle.std.proofs.Common.{ℕ, ◌+◌, ◌-◌, ◌≤◌, List, length, take, drop, Bool, cond, Option, None, Some, ap, ◌∙◌, arith}
use lib.Seq.{sets}
use borrow.Rule.Slice.PartMut.{put_mid}
use Rattle.std.proofs.lemmas.Bool.{le-leb}
use Rattle.refusal.specs.declared.refusals.Refusal.{Refusal}
use Rattle.refusal.specs.declared.refusals.Refusal.TheVariants.{PageRoom}
use Rattle.page.proofs.Writes.{sets_part}
use Rattle.page.proofs.states.append.Goals as goal

pub returns : goal.returns
returns c =
    let free = c.args.free in
    let buffer = c.args.buffer.now in
    let text = c.args.text.now.bytes in
    let room : free + length text ≤ length buffer = omega arith in (
      ap (λ (b : Bool). let r : Option Refusal = cond b None (Some (PageRoom free)) in r) (le-leb (free + length text) (length buffer) room),
      omega arith,
      ap (put_mid free (length buffer - free) buffer) (c.put.ensures ∙ ap (λ (z : List ℕ). sets (take (length buffer - free) (drop free buffer)) 0 z) (c.as_bytes.ensures.value ∙ c.deref.ensures.0)) ∙ sets_part buffer free (length buffer - free) text room (omega arith),
    )
