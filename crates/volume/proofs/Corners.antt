-- The eight corners of a cell, told at once where a volume has them all. Assumes nothing.
use Rattle.std.proofs.Common.{◌≡◌, ℕ, ◌+◌, ◌-◌, ◌*◌, ◌≤◌, Bool, true, cond, ◌&&◌, List, [], ◌∷◌, map, min, get_or, None, Option, sym, ap, ◌∙◌, mul_assoc, mul-add, add-zero, arith}
use Rattle.std.proofs.lemmas.Bool.{le-leb}
use Rattle.grid.specs.declared.geometry.Point.{Point}
use Rattle.grid.specs.Points.{Sides, ◌⊕◌, offset, sampled}
use Rattle.grid.specs.Patterns.{corner_flags}
use Rattle.grid.specs.Shapes.{sides}
use Rattle.volume.specs.Blocks.{Inner, entry_inside, block}
use Rattle.volume.specs.Insides.{answer_inside, inside_at}
use Rattle.volume.specs.declared.phantoms.Phantom.{Phantom}
use Rattle.volume.specs.Kinds.{density_inside, density_stored}
use Rattle.volume.specs.Volumes.{table_place, table_sample, entry_sample, square_apart, squared_distance, phantom_sample}

abbrev step : ℕ → ℕ → ℕ → Point
step x y z = record { x = x; y = y; z = z }

-- the place of a sample that lies so many steps further
place_moved : (s : Sides) (B : Point) (x y z : ℕ) → 1 ≤ B.x → 1 ≤ B.y → 1 ≤ B.z → table_place s (B ⊕ step x y z) ≡ table_place s B + x + s.nx * y + s.nx * s.ny * z
unfolding ◌⊕◌
place_moved s B x y z hx hy hz =
    let a = B.x - 1 in
    let b = B.y - 1 in
    let c = B.z - 1 in
    let ex : B.x + x - 1 ≡ a + x = omega arith in
    let ey : B.y + y - 1 ≡ b + y = omega arith in
    let ez : B.z + z - 1 ≡ c + z = omega arith in
    let layers = mul-add s.ny c z in
    let rows = mul-add s.nx (b + y) (s.ny * (c + z)) in
    let row = mul-add s.nx b y in
    let layer = ap (λ (k : ℕ). s.nx * k) layers ∙ mul-add s.nx (s.ny * c) (s.ny * z) in
    let base = mul-add s.nx b (s.ny * c) in
    let last = mul_assoc s.nx s.ny z in
    (λ i. ex i + s.nx * (ey i + s.ny * ez i)) ∙ omega (arith, layers, rows, row, layer, base, last)

-- each corner of an inner cell has a sample
inner_sampled : (s : Sides) (B : Point) (x y z : ℕ) → Inner s B → x ≤ 1 → y ≤ 1 → z ≤ 1 → sampled s (B ⊕ step x y z) ≡ true
unfolding ◌⊕◌
inner_sampled s B x y z h hx hy hz =
    let x_low = le-leb 1 (B.x + x) (omega (arith, h.x_low)) in
    let x_high = le-leb (B.x + x) s.nx (omega (arith, h.x_high)) in
    let y_low = le-leb 1 (B.y + y) (omega (arith, h.y_low)) in
    let y_high = le-leb (B.y + y) s.ny (omega (arith, h.y_high)) in
    let z_low = le-leb 1 (B.z + z) (omega (arith, h.z_low)) in
    let z_high = le-leb (B.z + z) s.nz (omega (arith, h.z_high)) in
    (λ i. x_low i && x_high i && (y_low i && y_high i) && (z_low i && z_high i))

module _ {E K L : Type 0} (stored : E → Option K) (inside : K → L → Bool) (h : L) where
  -- the flag of one corner
  at_corner : (s : Sides) (entries : List (Option E)) (B : Point) → Inner s B → (x y z n : ℕ) → x ≤ 1 → y ≤ 1 → z ≤ 1 → n ≡ table_place s B + x + s.nx * y + s.nx * s.ny * z → entry_inside stored inside h (get_or entries n None) ≡ inside_at inside h (table_sample stored s entries) (B ⊕ step x y z)
  at_corner s entries B inner x y z n hx hy hz e =
      let p = B ⊕ step x y z in
      let place : n ≡ table_place s p = e ∙ sym (place_moved s B x y z inner.x_low inner.y_low inner.z_low) in
      ap (λ (k : ℕ). entry_inside stored inside h (get_or entries k None)) place
      ∙ ap (λ (b : Bool). answer_inside inside h (cond b (entry_sample stored (get_or entries (table_place s p) None)) None)) (sym (inner_sampled s B x y z inner hx hy hz))

  -- the flags of all eight
  pub block_corners : (s : Sides) (entries : List (Option E)) (B : Point) (at row layer : ℕ) → Inner s B → at ≡ table_place s B → row ≡ s.nx → layer ≡ s.nx * s.ny → map (λ n. entry_inside stored inside h (get_or entries n None)) (block at row layer) ≡ corner_flags (inside_at inside h (table_sample stored s entries)) B
  unfolding corner_flags offset
  block_corners s entries B at row layer inner eat erow elayer =
      let flag = at_corner s entries B inner in
      λ i.
      flag 0 0 0 at (omega arith) (omega arith) (omega arith) (omega (arith, eat, erow, elayer)) i
      ∷ flag 1 0 0 (at + 1) (omega arith) (omega arith) (omega arith) (omega (arith, eat, erow, elayer)) i
      ∷ flag 0 1 0 (at + row) (omega arith) (omega arith) (omega arith) (omega (arith, eat, erow, elayer)) i
      ∷ flag 1 1 0 (at + row + 1) (omega arith) (omega arith) (omega arith) (omega (arith, eat, erow, elayer)) i
      ∷ flag 0 0 1 (at + layer) (omega arith) (omega arith) (omega arith) (omega (arith, eat, erow, elayer)) i
      ∷ flag 1 0 1 (at + layer + 1) (omega arith) (omega arith) (omega arith) (omega (arith, eat, erow, elayer)) i
      ∷ flag 0 1 1 (at + layer + row) (omega arith) (omega arith) (omega arith) (omega (arith, eat, erow, elayer)) i
      ∷ flag 1 1 1 (at + layer + row + 1) (omega arith) (omega arith) (omega arith) (omega (arith, eat, erow, elayer)) i
      ∷ []

-- the flag of one corner of an inner cell of a phantom, by its squared distance
ball_corner : (v : Phantom) (h : ℕ) (B : Point) → Inner (sides v.shape) B → (x y z far : ℕ) → x ≤ 1 → y ≤ 1 → z ≤ 1 → far ≡ squared_distance v (B ⊕ step x y z) → answer_inside density_inside h (density_stored (65535 - min 65535 far)) ≡ inside_at density_inside h (phantom_sample v) (B ⊕ step x y z)
ball_corner v h B inner x y z far hx hy hz e =
    let p = B ⊕ step x y z in
    ap (λ (n : ℕ). answer_inside density_inside h (density_stored (65535 - min 65535 n))) e
    ∙ ap (λ (b : Bool). answer_inside density_inside h (cond b (density_stored (65535 - min 65535 (squared_distance v p))) None)) (sym (inner_sampled (sides v.shape) B x y z inner hx hy hz))

-- the squared distance of a corner is the sum of three squares along the axes
corner_far : (v : Phantom) (B : Point) (x y z a b c : ℕ) → a ≡ square_apart (B.x + x - 1) v.cx → b ≡ square_apart (B.y + y - 1) v.cy → c ≡ square_apart (B.z + z - 1) v.cz → a + b + c ≡ squared_distance v (B ⊕ step x y z)
unfolding ◌⊕◌
corner_far v B x y z a b c ea eb ec = λ i. ea i + eb i + ec i

-- the flags of all eight, from the squares at the base and one step further along each axis
pub ball_corners : (v : Phantom) (h : ℕ) (B : Point) → Inner (sides v.shape) B → (a a' b b' c c' : ℕ) → a ≡ square_apart (B.x - 1) v.cx → a' ≡ square_apart (B.x + 1 - 1) v.cx → b ≡ square_apart (B.y - 1) v.cy → b' ≡ square_apart (B.y + 1 - 1) v.cy → c ≡ square_apart (B.z - 1) v.cz → c' ≡ square_apart (B.z + 1 - 1) v.cz → map (λ far. answer_inside density_inside h (density_stored (65535 - min 65535 far))) ((a + b + c) ∷ (a' + b + c) ∷ (a + b' + c) ∷ (a' + b' + c) ∷ (a + b + c') ∷ (a' + b + c') ∷ (a + b' + c') ∷ (a' + b' + c') ∷ []) ≡ corner_flags (inside_at density_inside h (phantom_sample v)) B
unfolding corner_flags offset
ball_corners v h B inner a a' b b' c c' ea ea' eb eb' ec ec' =
    let x : a ≡ square_apart (B.x + 0 - 1) v.cx = ea ∙ ap (λ (n : ℕ). square_apart (n - 1) v.cx) (sym (add-zero B.x)) in
    let y : b ≡ square_apart (B.y + 0 - 1) v.cy = eb ∙ ap (λ (n : ℕ). square_apart (n - 1) v.cy) (sym (add-zero B.y)) in
    let z : c ≡ square_apart (B.z + 0 - 1) v.cz = ec ∙ ap (λ (n : ℕ). square_apart (n - 1) v.cz) (sym (add-zero B.z)) in
    let flag = ball_corner v h B inner in
    let far = corner_far v B in
    λ i.
    flag 0 0 0 (a + b + c) (omega arith) (omega arith) (omega arith) (far 0 0 0 a b c x y z) i
    ∷ flag 1 0 0 (a' + b + c) (omega arith) (omega arith) (omega arith) (far 1 0 0 a' b c ea' y z) i
    ∷ flag 0 1 0 (a + b' + c) (omega arith) (omega arith) (omega arith) (far 0 1 0 a b' c x eb' z) i
    ∷ flag 1 1 0 (a' + b' + c) (omega arith) (omega arith) (omega arith) (far 1 1 0 a' b' c ea' eb' z) i
    ∷ flag 0 0 1 (a + b + c') (omega arith) (omega arith) (omega arith) (far 0 0 1 a b c' x y ec') i
    ∷ flag 1 0 1 (a' + b + c') (omega arith) (omega arith) (omega arith) (far 1 0 1 a' b c' ea' y ec') i
    ∷ flag 0 1 1 (a + b' + c') (omega arith) (omega arith) (omega arith) (far 0 1 1 a b' c' x eb' ec') i
    ∷ flag 1 1 1 (a' + b' + c') (omega arith) (omega arith) (omega arith) (far 1 1 1 a' b' c' ea' eb' ec') i
    ∷ []
