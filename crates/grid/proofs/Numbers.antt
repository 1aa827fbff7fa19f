-- Numbers of cells and keys of grid edges, both ways. Assumes nothing.
use Rattle.std.proofs.Common.{◌≡◌, ℕ, ◌+◌, ◌*◌, ◌/◌, ◌%◌, ◌<◌, sym, ap, ◌∙◌, subst, mod-lt, mul_comm, div-lt_iff_lt-mul, arith}
use native.Mathlib.Nat.{mod-add-div}
use Rattle.grid.specs.declared.geometry.Point.{Point}
use Rattle.grid.specs.declared.geometry.GridEdge.{GridEdge}
use Rattle.grid.specs.Points.{Sides, point_number, point_of, edge_key, Keyed, KeysDiffer}
use Rattle.grid.specs.Cells.{cell_count, cell_number, cell_base, Base}

-- a quotient is below what its divisor is multiplied by
quotient_below : (n a b : ℕ) → 0 < a → n < a * b → n / a < b
quotient_below n a b p h = (div-lt_iff_lt-mul p).1 (subst (λ (k : ℕ). n < k) (mul_comm a b) h)

-- the cell of a number is one of the grid's
pub base_within : (s : Sides) (n : ℕ) → n < cell_count s → Base s (cell_base s n)
base_within s n h =
    let x = mod-lt n {m = s.nx + 1} (omega arith) in
    let y = mod-lt (n / (s.nx + 1)) {m = s.ny + 1} (omega arith) in
    let row = quotient_below n (s.nx + 1) ((s.ny + 1) * (s.nz + 1)) (omega arith) h in
    let z = quotient_below (n / (s.nx + 1)) (s.ny + 1) (s.nz + 1) (omega arith) row in
    record { x = omega arith; y = omega arith; z = omega arith }

-- and has that number
pub number_of_base : (s : Sides) (n : ℕ) → cell_number s (cell_base s n) ≡ n
number_of_base s n =
    ap (λ (q : ℕ). n % (s.nx + 1) + (s.nx + 1) * q) (mod-add-div (n / (s.nx + 1)) (s.ny + 1)) ∙ mod-add-div n (s.nx + 1)

-- a point and its number: the coordinates are the number's digits in base 256
pub point_back : (p : Point) → p.x < 256 → p.y < 256 → p.z < 256 → point_of (point_number p) ≡ p
point_back p hx hy hz =
    let n = point_number p in
    let x : n % 256 ≡ p.x = omega arith in
    let q : n / 256 ≡ p.y + 256 * p.z = omega arith in
    let y : n / 256 % 256 ≡ p.y = ap (λ (k : ℕ). k % 256) q ∙ omega arith in
    let r : n / 65536 ≡ p.z = omega arith in
    let z : n / 65536 % 256 ≡ p.z = ap (λ (k : ℕ). k % 256) r ∙ omega arith in
    λ i. record { x = x i; y = y i; z = z i }

-- an edge and its key
pub edge_back : (e : GridEdge) → Keyed e → (edge_key e % 8 ≡ e.direction) × (point_of (edge_key e / 8) ≡ e.low)
edge_back e k =
    let n : edge_key e / 8 ≡ point_number e.low = omega arith in
    (omega arith, ap point_of n ∙ point_back e.low k.x k.y k.z)

-- different edges have different keys
pub keys_differ : KeysDiffer
keys_differ e f p q h =
    let d : e.direction ≡ f.direction = sym (edge_back e p).0 ∙ ap (λ (k : ℕ). k % 8) h ∙ (edge_back f q).0 in
    let l : e.low ≡ f.low = sym (edge_back e p).1 ∙ ap (λ (k : ℕ). point_of (k / 8)) h ∙ (edge_back f q).1 in
    λ i. record { low = l i; direction = d i }
