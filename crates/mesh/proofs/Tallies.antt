-- One triangle more in the notes of the vertices, and what the notes say once all are in. Assumes nothing.
use Rattle.std.proofs.Common.{◌≡◌, ℕ, ◌+◌, ◌<◌, ◌≤◌, false, cond, List, length, sym, ap, ◌∙◌, subst, ⊎_elim, arith}
use Rattle.std.proofs.lemmas.Bool.{cases_Bool, cond-true, cond-false}
use Rattle.grid.specs.declared.geometry.Triangle.{Triangle}
use Rattle.mesh.specs.declared.verdicts.VertexRecord.{VertexRecord}
use Rattle.mesh.specs.Triangles.{triangle_at, Corner, Runs, Apart, Has}
use Rattle.mesh.specs.Faults.{Bare}
use Rattle.mesh.specs.Counting.{count, is_at}
use Rattle.mesh.specs.VertexNotes.{degree_at, neighbour_at, Tallied, Surveyed}
use Rattle.mesh.proofs.Counting.{count_none, count_more, count_le, count_strict}
use Rattle.mesh.proofs.Round.{at_is, is_at_at}

pub surveyed_none : (ts : List (Triangle ℕ)) (ps : List VertexRecord) → ((v : ℕ) → v < length ps → degree_at ps v ≡ 0) → Surveyed ts 0 ps
surveyed_none ts ps zeros = record {
  degrees = λ v h. zeros v h ∙ sym (count_none (is_at ts v));
  firsts = λ v h p. absurd (omega (arith, zeros v h));
}

pub degree_le : (ts : List (Triangle ℕ)) (n : ℕ) (ps : List VertexRecord) → Surveyed ts n ps → (v : ℕ) → v < length ps → degree_at ps v ≤ n
degree_le ts n ps s v h = omega (arith, s.degrees v h, count_le (is_at ts v) n)

module _ (ts : List (Triangle ℕ)) (k : ℕ) (within : k < length ts) (apart : Apart (triangle_at ts k)) (ps p1 p2 p3 : List VertexRecord) (len : length p3 ≡ length ps) (old : Surveyed ts k ps)
    (ta : Tallied ps p1 (triangle_at ts k).a (triangle_at ts k).b) (tb : Tallied p1 p2 (triangle_at ts k).b (triangle_at ts k).c) (tc : Tallied p2 p3 (triangle_at ts k).c (triangle_at ts k).a) where
  abbrev t : Triangle ℕ
  t = triangle_at ts k

  -- what is noted of a corner
  abbrev Here : ℕ → Type 0
  Here v = (degree_at p3 v ≡ degree_at ps v + 1) × Runs (triangle_at ts k) v (neighbour_at p3 v)

  here_a : Here t.a
  here_a = grind arith

  here_b : Here t.b
  here_b = grind arith

  here_c : Here t.c
  here_c = grind arith

  here : (v : ℕ) → Corner (triangle_at ts k) v → Here v
  here v c = grind arith

  kept : (v : ℕ) → (Corner (triangle_at ts k) v → ⊥) → (degree_at p3 v ≡ degree_at ps v) × (neighbour_at p3 v ≡ neighbour_at ps v)
  kept v d = grind arith

  corner : (v : ℕ) → is_at ts v k ≡ false → Corner (triangle_at ts k) v → ⊥
  corner v e c = grind arith

  pub surveyed_more : Surveyed ts (k + 1) p3
  surveyed_more = record {
    degrees = λ v h.
        let more = count_more (is_at ts v) k in
        let was = old.degrees v (omega arith) in
        ⊎_elim
        (λ e. let one : cond {A = ℕ} (is_at ts v k) 1 0 ≡ 1 = cond-true (is_at ts v k) 1 0 e in
        let now = here v (is_at_at ts v k e).corner in
        now.0 ∙ ap (λ (n : ℕ). n + 1) was ∙ sym (more ∙ ap (λ (n : ℕ). count (is_at ts v) k + n) one))
        (λ e. let none : cond {A = ℕ} (is_at ts v k) 1 0 ≡ 0 = cond-false (is_at ts v k) 1 0 e in
        let now = kept v (corner v e) in
        let z : count (is_at ts v) k ≡ count (is_at ts v) k + 0 = omega arith in
        now.0 ∙ was ∙ z ∙ sym (more ∙ ap (λ (n : ℕ). count (is_at ts v) k + n) none))
        (cases_Bool (is_at ts v k));
    firsts = λ v h p.
        ⊎_elim
        (λ e. record { at = k; within = within; runs = (here v (is_at_at ts v k e).corner).1 })
        (λ e. let now = kept v (corner v e) in subst (λ (n : ℕ). Has ts (length ts) v n) (sym now.1) (old.firsts v (omega arith) (omega (arith, now.0))))
        (cases_Bool (is_at ts v k));
  }

module _ (ts : List (Triangle ℕ)) (ps : List VertexRecord) (s : Surveyed ts (length ts) ps) (v : ℕ) (h : v < length ps) where
  pub zero_bare : degree_at ps v ≡ 0 → Bare ts v
  zero_bare z k a = omega (arith, s.degrees v h, count_strict (is_at ts v) k (length ts) (at_is ts v k a) a.within)

  pub some_not_bare : 0 < degree_at ps v → Bare ts v → ⊥
  some_not_bare p b = grind arith
