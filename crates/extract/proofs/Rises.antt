-- Cells marched one after the other. Assumes nothing.
use Rattle.std.proofs.Common.{◌≡◌, ℕ, zero, suc, ◌+◌, ◌<◌, ◌≤◌, List, length, take, Some, None, Ok, Err, Option, Result, sym, refl, ap, ◌∙◌, ⊎_elim, add-one, arith, MatchResult}
use Rattle.std.proofs.lemmas.Bool.{cases_eq}
use Rattle.refusal.specs.declared.refusals.Refusal.{Refusal}
use Rattle.grid.specs.Cells.{cell_count}
use Rattle.page.specs.Text.{Mesh, page}
use Rattle.page.specs.Whole.{page_outcome, PageAnswer}
use Rattle.surface.specs.Marches.{State, Field, march_refusal, marched}
use Rattle.extract.specs.Rising.{unless, then_march, rising, mesh_of, page_or, page_of, skin_page}

module _ (f : Field) (s : State) where
  pub rising_none : rising f s 0 ≡ Ok s
  unfolding rising
  rising_none = refl

  pub rising_more : (n : ℕ) (t u : State) → rising f s n ≡ Ok t → march_refusal f t n ≡ None → u ≡ marched f t n → rising f s (n + 1) ≡ Ok u
  unfolding rising
  rising_more n t u r m e =
      ap (rising f s) (add-one n) ∙ ap (then_march f n) r ∙ ap (λ (o : Option Refusal). unless o (marched f t n)) m ∙ ap Ok (sym e)

  rising_stops : (n : ℕ) (t : State) (e : Refusal) → rising f s n ≡ Ok t → march_refusal f t n ≡ Some e → rising f s (suc n) ≡ Err e
  unfolding rising
  rising_stops n t e r m = ap (then_march f n) r ∙ ap (λ (o : Option Refusal). unless o (marched f t n)) m

  -- a refusal stays
  stopped : (m n : ℕ) (e : Refusal) → m ≤ n → rising f s m ≡ Err e → rising f s n ≡ Err e
  unfolding rising
  stopped m zero e h r = ap (rising f s) (let z : zero ≡ m = omega arith in z) ∙ r
  stopped m (suc n) e h r =
      ⊎_elim
      (λ q. ap (rising f s) (sym q) ∙ r)
      (λ d. ap (then_march f n) (stopped m n e (omega arith) r))
      (cases_eq m (suc n))

  pub refused_at : (n last : ℕ) (t : State) (e : Refusal) → n < last → rising f s n ≡ Ok t → march_refusal f t n ≡ Some e → rising f s last ≡ Err e
  refused_at n last t e h r m = stopped (suc n) last e (omega arith) (rising_stops n t e r m)

  -- the page of what was marched
  pub page_refused : (long : ℕ) (e : Refusal) → rising f s (cell_count f.sides) ≡ Err e → skin_page f s long ≡ Err e
  unfolding skin_page
  page_refused long e r = ap (page_of long) r

  pub page_stopped : (long : ℕ) (t : State) (e : Refusal) → rising f s (cell_count f.sides) ≡ Ok t → (page_outcome long (mesh_of t)).why ≡ Some e → skin_page f s long ≡ Err e
  unfolding skin_page
  page_stopped long t e r w = ap (page_of long) r ∙ ap (λ (o : Option Refusal). page_or o (mesh_of t)) w

  pub page_shown : (long : ℕ) (t : State) (text : List ℕ) → rising f s (cell_count f.sides) ≡ Ok t → (page_outcome long (mesh_of t)).why ≡ None → text ≡ page (mesh_of t) → skin_page f s long ≡ Ok text
  unfolding skin_page
  page_shown long t text r w p = ap (page_of long) r ∙ ap (λ (o : Option Refusal). page_or o (mesh_of t)) w ∙ ap Ok (sym p)

  -- what writing the page of the marched surface answers
  pub page_answered : (t : State) (m : Mesh) (before after : List ℕ) (r : Result ℕ Refusal) → rising f s (cell_count f.sides) ≡ Ok t → m ≡ mesh_of t → PageAnswer m before after r
      → MatchResult r (λ n. skin_page f s (length before) ≡ Ok (take n after)) (λ e. skin_page f s (length before) ≡ Err e)
  page_answered t m before after (Ok n) h e a =
      page_shown (length before) t (take n after) h (ap (λ (q : Mesh). (page_outcome (length before) q).why) (sym e) ∙ a.accepted) (a.text ∙ ap page e)
  page_answered t m before after (Err d) h e a =
      page_stopped (length before) t d h (ap (λ (q : Mesh). (page_outcome (length before) q).why) (sym e) ∙ a.refused)
