-- What a volume file is, read into tables. Assumes nothing.
use Rattle.std.proofs.Common.{◌≡◌, ℕ, zero, suc, ◌+◌, ◌-◌, ◌<◌, ◌≤◌, Bool, true, false, cond, not, eqb, ltb, List, length, get_or, drop, replicate, Some, None, Err, Option, Result, sym, refl, ap, ◌∙◌, subst, ⊎_elim, arith}
use lib.ListN.{length-replicate, length-map}
use lib.Seq.{sets, sets-eq}
use Rattle.std.specs.List.{range_with_len}
use Rattle.std.proofs.lemmas.List.FromFn.{length-range_with_len}
use Rattle.std.specs.Option.{option_or}
use Rattle.std.specs.Bool.{then_some}
use Rattle.std.proofs.lemmas.List.{get_or_append_left, get_or-append_right, get_or_past, drop-replicate}
use Rattle.std.proofs.lemmas.Bool.{cases_lt, cases_Bool, lt-ltb, le-ltb, ltb-false, eq-eqb, ne_eqb}
use Rattle.refusal.specs.declared.refusals.Refusal.{Refusal}
use Rattle.refusal.specs.declared.refusals.Refusal.TheVariants.{TableRoom, FileKind, FileLength}
use Rattle.grid.specs.Points.{Sides, sampled}
use Rattle.grid.specs.Shapes.{sides_refusal}
use Rattle.surface.specs.Marches.{Field, field}
use Rattle.volume.specs.declared.fractions.Fraction.{Fraction}
use Rattle.volume.specs.Files.{file_kind, file_sides, file_refusal, body_refusal, sample_count, length_due, density_samples, label_samples}
use Rattle.volume.specs.Volumes.{table_sample, table_place, entry_sample}
use Rattle.std.specs.Global.{Vec}
use Rattle.extract.specs.declared.failures.Failure.{Failure}
use Rattle.extract.specs.Answers.{Answers}
use Rattle.extract.specs.Output.{density_field, label_field, field_page, refuse_or, file_page}

-- entries past the end of what was read are missing
past : {E : Type 0} (m i : ℕ) → get_or {A = Option E} (replicate m None) i None ≡ None
past zero i = refl
past (suc m) zero = refl
past (suc m) (suc i) = past m i

pub padded : {E : Type 0} (n : ℕ) (xs : List (Option E)) (i : ℕ) → length xs ≤ n → get_or (sets (replicate n None) 0 xs) i None ≡ get_or xs i None
padded {E} n xs i h =
    let l = length-replicate {A = Option E} n None in
    ap (λ (ys : List (Option E)). get_or ys i None) (sets-eq xs (replicate n None) 0 (omega arith))
    ∙ ⊎_elim
    (λ b. get_or_append_left xs (drop (0 + length xs) (replicate n None)) None i b)
    (λ b. get_or-append_right xs (drop (0 + length xs) (replicate n None)) (length xs) i None refl b
    ∙ ap (λ (ys : List (Option E)). get_or ys (i - length xs) None) (drop-replicate (0 + length xs) n None)
    ∙ past (n - (0 + length xs)) (i - length xs) ∙ sym (get_or_past xs i None b))
    (cases_lt i (length xs))

-- so a table volume over the table has the file's samples
pub same_samples : {E K : Type 0} (stored : E → Option K) (s : Sides) (n : ℕ) (xs : List (Option E)) → length xs ≤ n → table_sample stored s (sets (replicate n None) 0 xs) ≡ table_sample stored s xs
same_samples stored s n xs h = λ i p. cond (sampled s p) (entry_sample stored (padded n xs (table_place s p) h i)) None

pub same_field : {E K L : Type 0} (inside : K → L → Bool) (crossing : K → K → L → Fraction) (stored : E → Option K) (h h' : L) (s s' : Sides) (n : ℕ) (xs ys : List (Option E))
    → h ≡ h' → s ≡ s' → ys ≡ sets (replicate n None) 0 xs → length xs ≤ n → field inside crossing h s (table_sample stored s ys) ≡ field inside crossing h' s' (table_sample stored s' xs)
same_field inside crossing stored h h' s s' n xs ys a b c d =
    ap (λ zs. field inside crossing h s (table_sample stored s zs)) c
    ∙ ap (field inside crossing h s) (same_samples stored s n xs d)
    ∙ (λ i. field inside crossing (a i) (b i) (table_sample stored (b i) xs))

-- where no test refuses, the samples fit
some_none : (e : Refusal) → Some e ≡ None → ⊥
some_none e p = let z : ◌≡◌ {A = ℕ} 0 1 = cc in omega arith

third : (a b c : Option Refusal) → option_or a (option_or b c) ≡ None → c ≡ None
third (Some e) b c h = absurd (some_none e h)
third None (Some e) c h = absurd (some_none e h)
third None None c h = h

not_when : (b : Bool) (e : Refusal) → then_some b e ≡ None → b ≡ false
not_when true e h = absurd (some_none e h)
not_when false e h = refl

body_fits : (b : List ℕ) (width room : ℕ) → body_refusal b width room ≡ None → sample_count (file_sides b) ≤ room
body_fits b width room h = ltb-false room (sample_count (file_sides b)) (not_when (ltb room (sample_count (file_sides b))) (TableRoom (sample_count (file_sides b))) (third (sides_refusal (file_sides b)) (then_some (not (eqb (length b) (length_due width (file_sides b)))) (FileLength (length_due width (file_sides b)))) (then_some (ltb room (sample_count (file_sides b))) (TableRoom (sample_count (file_sides b)))) h))

module _ (b : List ℕ) where
  long_enough : (room room' : ℕ) → file_refusal b room room' ≡ None → ltb (length b) 4 ≡ false
  long_enough room room' h =
      ⊎_elim
      (λ t. absurd (some_none (FileLength 4) (sym (ap (λ (q : Bool). cond q (Some (FileLength 4)) (cond (eqb (file_kind b) 1) (body_refusal b 2 room) (cond (eqb (file_kind b) 2) (body_refusal b 1 room') (Some FileKind)))) t) ∙ h)))
      (λ t. t)
      (cases_Bool (ltb (length b) 4))

  pub density_fits : (room room' : ℕ) → file_refusal b room room' ≡ None → file_kind b ≡ 1 → sample_count (file_sides b) ≤ room
  density_fits room room' h k =
      body_fits b 2 room
      (sym (λ i. cond (long_enough room room' h i) (Some (FileLength 4)) (cond (eq-eqb (file_kind b) 1 k i) (body_refusal b 2 room) (cond (eqb (file_kind b) 2) (body_refusal b 1 room') (Some FileKind)))) ∙ h)

  pub label_fits : (room room' : ℕ) → file_refusal b room room' ≡ None → file_kind b ≡ 2 → sample_count (file_sides b) ≤ room'
  label_fits room room' h k =
      let d : eqb (file_kind b) 1 ≡ false = ne_eqb (file_kind b) 1 (λ e. omega arith) in
      body_fits b 1 room'
      (sym (λ i. cond (long_enough room room' h i) (Some (FileLength 4)) (cond (d i) (body_refusal b 2 room) (cond (eq-eqb (file_kind b) 2 k i) (body_refusal b 1 room') (Some FileKind)))) ∙ h)

  -- the page of a file, case by case
  pub too_long : 4096 < length b → file_page b ≡ Err (TableRoom 4096)
  unfolding file_page
  too_long h = ap (λ (q : Bool). cond q (Err (TableRoom 4096)) (refuse_or (file_refusal b 1024 1024) (cond (eqb (file_kind b) 1) (field_page (density_field b)) (field_page (label_field b))))) (lt-ltb 4096 (length b) h)

  read : length b ≤ 4096 → file_page b ≡ refuse_or (file_refusal b 1024 1024) (cond (eqb (file_kind b) 1) (field_page (density_field b)) (field_page (label_field b)))
  unfolding file_page
  read h = ap (λ (q : Bool). cond q (Err (TableRoom 4096)) (refuse_or (file_refusal b 1024 1024) (cond (eqb (file_kind b) 1) (field_page (density_field b)) (field_page (label_field b))))) (le-ltb 4096 (length b) h)

  pub refused_file : (e : Refusal) → length b ≤ 4096 → file_refusal b 1024 1024 ≡ Some e → file_page b ≡ Err e
  refused_file e h r = read h ∙ ap (λ (o : Option Refusal). refuse_or o (cond (eqb (file_kind b) 1) (field_page (density_field b)) (field_page (label_field b)))) r

  pub density_page : (f : Field) → length b ≤ 4096 → file_refusal b 1024 1024 ≡ None → file_kind b ≡ 1 → f ≡ density_field b → field_page f ≡ file_page b
  density_page f h r k e =
      ap field_page e
      ∙ sym (read h ∙ (λ i. refuse_or (r i) (cond (eq-eqb (file_kind b) 1 k i) (field_page (density_field b)) (field_page (label_field b)))))

  pub label_page : (f : Field) → length b ≤ 4096 → file_refusal b 1024 1024 ≡ None → file_kind b ≡ 2 → f ≡ label_field b → field_page f ≡ file_page b
  label_page f h r k e =
      let d : eqb (file_kind b) 1 ≡ false = ne_eqb (file_kind b) 1 (λ q. omega arith) in
      ap field_page e
      ∙ sym (read h ∙ (λ i. refuse_or (r i) (cond (d i) (field_page (density_field b)) (field_page (label_field b)))))

-- as many samples as the block has
pub length_density : (b : List ℕ) → length (density_samples b) ≡ sample_count (file_sides b)
length_density b = length-map (range_with_len 0 (sample_count (file_sides b))) _ ∙ length-range_with_len 0 (sample_count (file_sides b))

pub length_label : (b : List ℕ) → length (label_samples b) ≡ sample_count (file_sides b)
length_label b = length-map (range_with_len 0 (sample_count (file_sides b))) _ ∙ length-range_with_len 0 (sample_count (file_sides b))

-- what a page answers, of one field or another
pub answered : (r : Result (Vec ℕ) Failure) (x y : Result (List ℕ) Refusal) → x ≡ y → Answers x r → Answers y r
answered r x y p h = subst (λ (z : Result (List ℕ) Refusal). Answers z r) p h

-- what is like a missing entry is missing
pub missing : {E : Type 0} (Like : Option E → Type 0) → ((x : E) → Like (Some x) → ⊥) → (y : Option E) → Like y → y ≡ None
missing Like f None h = refl
missing Like f (Some x) h = absurd (f x h)
