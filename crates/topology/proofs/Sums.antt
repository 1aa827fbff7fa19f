-- Sums over 0 .. n - 1, over the points of a grid and over its cells: linear, the same after a step along an axis where the ends are 0,
-- and the same by numbers and by axes.
use Rattle.std.proofs.Common.{◌≡◌, ℕ, zero, suc, ◌+◌, ◌*◌, ◌/◌, ◌%◌, ◌<◌, ◌≤◌, List, [], ◌∷◌, sum_by, sym, refl, ap, ◌∙◌, ap₂, add-zero, mul_comm, mul-add, add-one, arith}
use mathlib.Core.Path.{fun_ext}
use Rattle.std.proofs.lemmas.List.Sums.{sum_by-cons}
use Rattle.std.proofs.lemmas.Nat.{div-mul-add, mod-mul-add}
use Rattle.grid.specs.declared.geometry.Point.{Point}
use Rattle.grid.specs.Points.{Sides, ◌⊕◌, offset}
use Rattle.grid.specs.Cells.{cell_base}
use Rattle.topology.specs.Census.{Σ, over_points, over_cells, CellSums}
use Rattle.topology.proofs.Whole.{Within}

pub Σ_same : (n : ℕ) (f h : ℕ → ℕ) → ((i : ℕ) → i < n → f i ≡ h i) → Σ n f ≡ Σ n h
Σ_same zero f h e = refl
Σ_same (suc n) f h e = ap₂ ◌+◌ (Σ_same n f h (λ i k. e i (omega arith))) (e n (omega arith))

Σ_add : (n : ℕ) (f h : ℕ → ℕ) → Σ n (λ i. f i + h i) ≡ Σ n f + Σ n h
Σ_add zero f h = refl
Σ_add (suc n) f h = omega (arith, Σ_add n f h)

Σ_mul : (n k : ℕ) (f : ℕ → ℕ) → Σ n (λ i. k * f i) ≡ k * Σ n f
Σ_mul zero k f = omega arith
Σ_mul (suc n) k f = simp mul-add (omega (arith, Σ_mul n k f))

pub Σ_none : (n : ℕ) (f : ℕ → ℕ) → ((i : ℕ) → f i ≡ 0) → Σ n f ≡ 0
Σ_none zero f h = refl
Σ_none (suc n) f h = omega (arith, Σ_none n f h, h n)

Σ_next : (n : ℕ) (f : ℕ → ℕ) → Σ n (λ i. f (suc i)) + f 0 ≡ Σ n f + f n
Σ_next zero f = refl
Σ_next (suc n) f = omega (arith, Σ_next n f)

-- a function that is 0 at 0 and at n has the same sum after a step
Σ_step : (b n : ℕ) (f : ℕ → ℕ) → b < 2 → ((i : ℕ) → (1 ≤ i → i < n → ⊥) → f i ≡ 0) → Σ n (λ i. f (i + b)) ≡ Σ n f
Σ_step zero n f h out = simp add-zero
Σ_step (suc zero) n f h out = simp add-one (omega (arith, Σ_next n f, out 0 (omega arith), out n (omega arith)))
Σ_step (suc (suc b)) n f h out = absurd (omega arith)

-- a last term that is 0 may be left out
pub Σ_last : (n : ℕ) (f : ℕ → ℕ) → f (n + 1) ≡ 0 → Σ (n + 2) f ≡ Σ (n + 1) f
Σ_last n f h =
    let e : n + 2 ≡ suc (n + 1) = omega arith in
    ap (λ k. Σ k f) e ∙ omega (arith, h)

-- a sum over a product, row by row
Σ_split : (k n : ℕ) (f : ℕ → ℕ) → Σ (k + n) f ≡ Σ k f + Σ n (λ i. f (k + i))
Σ_split k zero f = ap (λ m. Σ m f) (add-zero k) ∙ omega arith
Σ_split k (suc n) f =
    let e : k + suc n ≡ suc (k + n) = omega arith in
    ap (λ m. Σ m f) e ∙ omega (arith, Σ_split k n f)

Σ_rows : (a m : ℕ) (g : ℕ → ℕ → ℕ) → Σ (m * a) (λ k. g (k % a) (k / a)) ≡ Σ m (λ j. Σ a (λ i. g i j))
Σ_rows a zero g = ap (λ m. Σ m (λ k. g (k % a) (k / a))) (let e : 0 * a ≡ 0 = omega arith in e)
Σ_rows a (suc m) g =
    let h : ℕ → ℕ = λ k. g (k % a) (k / a) in
    let e : suc m * a ≡ m * a + a = omega arith in
    ap (λ n. Σ n h) e ∙ Σ_split (m * a) a h
    ∙ ap₂ ◌+◌ (Σ_rows a m g) (Σ_same a (λ i. h (m * a + i)) (λ i. g i m) (λ i k. ap₂ g (mod-mul-add m a i k) (div-mul-add m a i k)))

pub cell_sums : CellSums
unfolding over_cells
cell_sums n f =
    let a = n.nx + 1 in
    let b = n.ny + 1 in
    let c = n.nz + 1 in
    let h : ℕ → ℕ = λ k. f (cell_base n k) in
    let e : a * (b * c) ≡ (c * b) * a = mul_comm a (b * c) ∙ ap (λ m. m * a) (mul_comm b c) in
    ap (λ m. Σ m h) e
    ∙ Σ_rows a (c * b) (λ x q. f (record { x = x; y = q % b; z = q / b }))
    ∙ Σ_rows b c (λ y z. Σ a (λ x. f (record { x = x; y = y; z = z })))

module _ (n : Sides) where
  pub points_add : (f h : Point → ℕ) → over_points n (λ P. f P + h P) ≡ over_points n f + over_points n h
  unfolding over_points
  points_add f h = simp Σ_add

  pub points_mul : (k : ℕ) (f : Point → ℕ) → over_points n (λ P. k * f P) ≡ k * over_points n f
  unfolding over_points
  points_mul k f = simp Σ_mul

  -- a function that is 0 at and past the border has the same sum after a step along any of the axes
  pub points_step : (d : ℕ) (f : Point → ℕ) → ((P : Point) → (Within n P → ⊥) → f P ≡ 0) → over_points n (λ P. f (P ⊕ offset d)) ≡ over_points n f
  unfolding over_points ◌⊕◌ offset
  points_step d f out =
      let g : ℕ → ℕ → ℕ → ℕ = λ x y z. f (record { x = x; y = y; z = z }) in
      let no : (x y z : ℕ) → (Within n (record { x = x; y = y; z = z }) → ⊥) → g x y z ≡ 0 = λ x y z. out (record { x = x; y = y; z = z }) in
      ap (Σ _) (fun_ext λ z. ap (Σ _) (fun_ext λ y. Σ_step (d % 2) _ (λ x. g x (y + d / 2 % 2) (z + d / 4 % 2)) (omega arith) λ x h. no x _ _ λ w. h w.x_low (omega (arith, w.x_high))))
      ∙ (ap (Σ _) (fun_ext λ z. Σ_step (d / 2 % 2) _ (λ y. Σ _ (λ x. g x y (z + d / 4 % 2))) (omega arith) λ y h. Σ_none _ _ λ x. no x y _ λ w. h w.y_low (omega (arith, w.y_high)))
      ∙ Σ_step (d / 4 % 2) _ (λ z. Σ _ (λ y. Σ _ (λ x. g x y z))) (omega arith) λ z h. Σ_none _ _ λ y. Σ_none _ _ λ x. no x y z λ w. h w.z_low (omega (arith, w.z_high)))

  -- a function that is 0 at the points that are no base of a cell has one sum over the points and over the cells
  pub points_cells : (f : Point → ℕ) → ((P : Point) → (P.x ≤ n.nx → P.y ≤ n.ny → P.z ≤ n.nz → ⊥) → f P ≡ 0) → over_cells n f ≡ over_points n f
  unfolding over_points
  points_cells f out =
      let g : ℕ → ℕ → ℕ → ℕ = λ x y z. f (record { x = x; y = y; z = z }) in
      let no : (x y z : ℕ) → (x ≤ n.nx → y ≤ n.ny → z ≤ n.nz → ⊥) → g x y z ≡ 0 = λ x y z. out (record { x = x; y = y; z = z }) in
      cell_sums n f
      ∙ sym (
      ap (Σ _) (fun_ext λ z. ap (Σ _) (fun_ext λ y. Σ_last n.nx (λ x. g x y z) (no _ y z λ a b c. omega (arith, a))))
      ∙ (ap (Σ _) (fun_ext λ z. Σ_last n.ny (λ y. Σ (n.nx + 1) (λ x. g x y z)) (Σ_none _ _ λ x. no x _ z λ a b c. omega (arith, b)))
      ∙ Σ_last n.nz (λ z. Σ (n.ny + 1) (λ y. Σ (n.nx + 1) (λ x. g x y z))) (Σ_none _ _ λ y. Σ_none _ _ λ x. no x y _ λ a b c. omega (arith, c)))
      )

  -- a sum over a list may be taken outside
  pub points_sum : {A : Type 0} (f : A → Point → ℕ) (l : List A) → over_points n (λ P. sum_by (λ a. f a P) l) ≡ sum_by (λ a. over_points n (f a)) l
  unfolding over_points
  points_sum f [] = Σ_none _ _ λ z. Σ_none _ _ λ y. Σ_none _ _ λ x. refl
  points_sum f (a ∷ l) =
      ap (over_points n) (fun_ext λ P. sum_by-cons (λ a. f a P) a l)
      ∙ points_add (f a) (λ P. sum_by (λ b. f b P) l)
      ∙ ap (λ k. over_points n (f a) + k) (points_sum f l)
      ∙ sym (sum_by-cons (λ a. over_points n (f a)) a l)
