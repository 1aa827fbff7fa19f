-- A base of the grid has a cell number, and is the base of that cell. Assumes nothing.
use Rattle.std.proofs.Common.{◌≡◌, ℕ, ◌+◌, ◌*◌, ◌/◌, ◌%◌, ◌<◌, ◌≤◌, ap, ◌∙◌, mod-eq_of_lt, mul-le-mul_left, arith}
use native.Mathlib.Nat.{div-eq_of_lt, add-mul-mod_self_left, add-mul-div_left}
use Rattle.grid.specs.declared.geometry.Point.{Point}
use Rattle.grid.specs.Points.{Sides}
use Rattle.grid.specs.Cells.{cell_count, cell_number, cell_base, Base}

digit_low : (a x q : ℕ) → x < a → (x + a * q) % a ≡ x
digit_low a x q h = add-mul-mod_self_left x a q ∙ mod-eq_of_lt h

digit_high : (a x q : ℕ) → x < a → (x + a * q) / a ≡ q
digit_high a x q h = let z : 0 < a = omega arith in let d = add-mul-div_left x q z in let e = div-eq_of_lt h in omega arith

digit_below : (a b x q : ℕ) → x < a → q < b → x + a * q < a * b
digit_below a b x q h k =
    let l : q + 1 ≤ b = omega arith in
    let m : a * (q + 1) ≤ a * b = mul-le-mul_left a l in
    omega arith

pub base_of_number : (s : Sides) (b : Point) → Base s b → cell_base s (cell_number s b) ≡ b
base_of_number s b h =
    let row = b.y + (s.ny + 1) * b.z in
    let x = digit_low (s.nx + 1) b.x row (omega (arith, h.x)) in
    let q = digit_high (s.nx + 1) b.x row (omega (arith, h.x)) in
    let y = ap (λ (n : ℕ). n % (s.ny + 1)) q ∙ digit_low (s.ny + 1) b.y b.z (omega (arith, h.y)) in
    let z = ap (λ (n : ℕ). n / (s.ny + 1)) q ∙ digit_high (s.ny + 1) b.y b.z (omega (arith, h.y)) in
    (λ i. record { x = x i; y = y i; z = z i })

pub number_below : (s : Sides) (b : Point) → Base s b → cell_number s b < cell_count s
number_below s b h =
    digit_below (s.nx + 1) ((s.ny + 1) * (s.nz + 1)) b.x (b.y + (s.ny + 1) * b.z) (omega (arith, h.x))
    (digit_below (s.ny + 1) (s.nz + 1) b.y b.z (omega (arith, h.y)) (omega (arith, h.z)))
