-- The sides of a cell's triangles are the sides of its tetrahedra, so what holds of these holds of those.
use Rattle.std.proofs.Common.{◌≡◌, ℕ, zero, suc, ◌+◌, ◌/◌, ◌%◌, ◌<◌, ◌≤◌, Bool, true, ◌&&◌, leb, ◌⊎◌, length, get_or, sym, refl, ap, ◌∙◌, subst, ap₂, inl, inr, arith}
use Rattle.std.proofs.lemmas.Bool.{and_parts, leb-true}
use Rattle.grid.specs.declared.geometry.GridEdge.{GridEdge}
use Rattle.grid.specs.declared.geometry.Point.{Point}
use Rattle.grid.specs.declared.geometry.Triangle.{Triangle}
use Rattle.grid.specs.Points.{Sides, ◌⊕◌, offset, top, crossed, sampled}
use Rattle.grid.specs.Cells.{Base, corner, vertex, tet_triangles, cell_triangles}
use Rattle.grid.specs.Patterns.{six}
use Rattle.grid.proofs.Patterns.{six_at}
use Rattle.topology.specs.Crossings.{CornerOf, Apart}
use Rattle.topology.specs.Sides.{start, end, Side, Lives, none, its_triangle, source, target, Unique, OnWall, Opposed, Grounded, Closed, Padded, Kept, PaddedGrounded}
use Rattle.topology.proofs.Members.{in_has}
use Rattle.topology.proofs.Crossed.{corners_differ}
use Rattle.topology.proofs.Places.{Place, Stands, its, begins, ends, in_get_d, unique_place, begins_low, begins_top, begins_crossed}
use Rattle.topology.proofs.Opposite.{one_true, reverse, reverse_stands, reverse_begins, reverse_ends, reverse_place, walls_are}
use Rattle.topology.proofs.Seats.{spot, spot_below, spot_at, seat}

pub side_≡ : {s r : Side} → s.base ≡ r.base → s.triangle ≡ r.triangle → s.turn ≡ r.turn → s ≡ r
side_≡ a b c = λ i. record { base = a i; triangle = b i; turn = c i }

module _ (inside : Point → Bool) where
  -- the side of a cell that a side of a tetrahedron is
  unfoldable pub side : Place → Side
  side p = record { base = p.base; triangle = spot (tet_triangles inside p.base) six p.tet p.tri; turn = p.turn }

  in_list : (p : Place) → Stands inside p → p.tri < length (tet_triangles inside p.base (get_or six p.tet 0))
  in_list p h = subst (λ t. p.tri < length (tet_triangles inside p.base t)) (sym (six_at p.tet h.tet)) h.tri

  pub side_lives : (p : Place) → Stands inside p → Lives inside (side p)
  unfolding side cell_triangles
  side_lives p h = record { triangle = spot_below (tet_triangles inside p.base) 0 six p.tet p.tri h.tet (in_list p h); turn = h.turn }

  pub side_triangle : (p : Place) → Stands inside p → its_triangle inside (side p) ≡ its inside p
  unfolding side its_triangle its cell_triangles
  side_triangle p h =
      spot_at (tet_triangles inside p.base) 0 none six p.tet p.tri h.tet (in_list p h)
      ∙ ap (λ t. get_or (tet_triangles inside p.base t) p.tri none) (six_at p.tet h.tet)

  pub side_source : (p : Place) → Stands inside p → source inside (side p) ≡ begins inside p
  unfolding source begins side
  side_source p h = ap (start p.turn) (side_triangle p h)

  pub side_target : (p : Place) → Stands inside p → target inside (side p) ≡ ends inside p
  unfolding target ends side
  side_target p h = ap (end p.turn) (side_triangle p h)

  pub record Seated (s : Side) : Type 0 where
    pub place : Place
    pub stands : Stands inside place
    pub is : side place ≡ s

  pub seated : (s : Side) → Lives inside s → Seated s
  unfolding side cell_triangles
  seated s h =
      let r = seat (tet_triangles inside s.base) 0 six s.triangle h.triangle in
      let t = r.row in
      let l : r.rank < length (tet_triangles inside s.base r.row) = subst (λ t. r.rank < length (tet_triangles inside s.base t)) (six_at r.row r.row_below) r.rank_below in
      record {
        place = record { base = s.base; tet = r.row; tri = r.rank; turn = s.turn };
        stands = record { tet = r.row_below; tri = l; turn = h.turn };
        is = side_≡ refl r.is refl;
      }

  pub source_of : (s : Side) (k : Seated s) → source inside s ≡ begins inside k.place
  source_of s k = ap (source inside) (sym k.is) ∙ side_source k.place k.stands

  pub target_of : (s : Side) (k : Seated s) → target inside s ≡ ends inside k.place
  target_of s k = ap (target inside) (sym k.is) ∙ side_target k.place k.stands

-- two corners of a triangle are the ends of one of its sides, in one sense or the other
pub sense : (τ : Triangle GridEdge) (e f : GridEdge) → CornerOf τ e → CornerOf τ f → (e ≡ f → ⊥) →
    (j : ℕ) × (j < 3) × (((start j τ ≡ e) × (end j τ ≡ f)) ⊎ ((start j τ ≡ f) × (end j τ ≡ e)))
unfolding start end
sense τ e f (inl p) (inl q) n = absurd (n (sym p ∙ q))
sense τ e f (inl p) (inr (inl q)) n = (0, omega arith, inl (p, q))
sense τ e f (inl p) (inr (inr q)) n = (2, omega arith, inr (q, p))
sense τ e f (inr (inl p)) (inl q) n = (0, omega arith, inr (q, p))
sense τ e f (inr (inl p)) (inr (inl q)) n = absurd (n (sym p ∙ q))
sense τ e f (inr (inl p)) (inr (inr q)) n = (1, omega arith, inl (p, q))
sense τ e f (inr (inr p)) (inl q) n = (2, omega arith, inl (p, q))
sense τ e f (inr (inr p)) (inr (inl q)) n = (1, omega arith, inr (q, p))
sense τ e f (inr (inr p)) (inr (inr q)) n = absurd (n (sym p ∙ q))

-- a triangle with three different corners does not run along one edge both ways
no_return : (τ : Triangle GridEdge) → Apart τ → (i j : ℕ) → start j τ ≡ end i τ → end j τ ≡ start i τ → ⊥
unfolding start end
no_return τ n zero zero p q = n.ab p
no_return τ n zero (suc zero) p q = n.ca q
no_return τ n zero (suc (suc j)) p q = n.bc (sym p)
no_return τ n (suc zero) zero p q = n.ca (sym p)
no_return τ n (suc zero) (suc zero) p q = n.bc p
no_return τ n (suc zero) (suc (suc j)) p q = n.ab q
no_return τ n (suc (suc i)) zero p q = n.bc q
no_return τ n (suc (suc i)) (suc zero) p q = n.ab (sym p)
no_return τ n (suc (suc i)) (suc (suc j)) p q = n.ca p

-- the three corners of a living side's triangle are different, and so are its ends
its_apart : (inside : Point → Bool) (s : Side) → Lives inside s → Apart (its_triangle inside s)
unfolding its_triangle
its_apart inside s h =
    let l = cell_triangles inside s.base in
    corners_differ inside s.base (get_or l s.triangle none) (in_has l _ (in_get_d l s.triangle none h.triangle))

ends_apart : (τ : Triangle GridEdge) → Apart τ → (j : ℕ) → start j τ ≡ end j τ → ⊥
unfolding start end
ends_apart τ n zero p = n.ab p
ends_apart τ n (suc zero) p = n.bc p
ends_apart τ n (suc (suc j)) p = n.ca p

pub unique : Unique
unique inside s r hs hr es et =
    let a = seated inside s hs in
    let b = seated inside r hr in
    let e = unique_place inside a.place b.place a.stands b.stands (sym (source_of inside s a) ∙ es ∙ source_of inside r b) (sym (target_of inside s a) ∙ et ∙ target_of inside r b) in
    sym a.is ∙ ap (side inside) e ∙ b.is

-- what only one opposite side says of the triangles at the mesh edge
module _ (inside : Point → Bool) (s r : Side) (hs : Lives inside s) (b : source inside r ≡ target inside s) (e : target inside r ≡ source inside s)
    (only : (q : Side) → Lives inside q → source inside q ≡ target inside s → target inside q ≡ source inside s → q ≡ r) where
  other_triangle : r.base ≡ s.base → r.triangle ≡ s.triangle → ⊥
  unfolding source target its_triangle
  other_triangle p q =
      let same : its_triangle inside r ≡ its_triangle inside s = ap₂ (λ B k. get_or (cell_triangles inside B) k none) p q in
      no_return (its_triangle inside s) (its_apart inside s hs) s.turn r.turn (ap (start r.turn) (sym same) ∙ b) (ap (end r.turn) (sym same) ∙ e)

  two_triangles : (B : Point) (k : ℕ) → k < length (cell_triangles inside B) →
      CornerOf (get_or (cell_triangles inside B) k none) (source inside s) → CornerOf (get_or (cell_triangles inside B) k none) (target inside s) →
      ((B ≡ s.base) × (k ≡ s.triangle)) ⊎ ((B ≡ r.base) × (k ≡ r.triangle))
  unfolding source target its_triangle
  two_triangles B k h x y =
      let τ = get_or (cell_triangles inside B) k none in
      let j = sense τ (source inside s) (target inside s) x y (ends_apart (its_triangle inside s) (its_apart inside s hs) s.turn) in
      let q : Side = record { base = B; triangle = k; turn = j.0 } in
      let l : Lives inside q = record { triangle = h; turn = j.1 } in
      elim j.2 [
        | inl c ↦ let z = unique inside q s l hs c.0 c.1 in inl (ap (λ (s : Side). s.base) z, ap (λ (s : Side). s.triangle) z)
        | inr c ↦ let z = only q l c.0 c.1 in inr (ap (λ (s : Side). s.base) z, ap (λ (s : Side). s.triangle) z)
      ]

opposed : (inside : Point → Bool) (ground : Grounded inside) (p : Place) (h : Stands inside p) → Opposed inside (side inside p) (side inside (reverse inside ground p h))
unfolding side
opposed inside ground p h =
    let q = reverse inside ground p h in
    let k = reverse_stands inside ground p h in
    let sp = side_source inside p h in
    let tp = side_target inside p h in
    let sq = side_source inside q k in
    let tq = side_target inside q k in
    let b : source inside (side inside q) ≡ target inside (side inside p) = sq ∙ reverse_begins inside ground p h ∙ sym tp in
    let e : target inside (side inside q) ≡ source inside (side inside p) = tq ∙ reverse_ends inside ground p h ∙ sym sp in
    let only : (r : Side) → Lives inside r → source inside r ≡ target inside (side inside p) → target inside r ≡ source inside (side inside p) → r ≡ side inside q =
    λ r l x y. unique inside r (side inside q) l (side_lives inside q k) (x ∙ sym b) (y ∙ sym e) in
    let lp = side_lives inside p h in
    let W : Point → Point → GridEdge → GridEdge → Type 0 = OnWall in
    record {
      lives = side_lives inside q k;
      begins = b;
      ends = e;
      only = only;
      other = other_triangle inside (side inside p) (side inside q) lp b e only;
      two = two_triangles inside (side inside p) (side inside q) lp b e only;
      place = elim (reverse_place inside ground p h) [
        | inl z ↦ inl z
        | inr z ↦ inr (subst (λ f. W p.base q.base (source inside (side inside p)) f) (sym tp) (subst (λ e. W p.base q.base e (ends inside p)) (sym sp) z))
      ];
      walls = λ B C z. walls_are inside ground p h B C (subst (λ f. W B C (begins inside p) f) tp (subst (λ e. W B C e (target inside (side inside p))) sp z));
    }

pub closed : Closed
closed inside ground s h =
    let a = seated inside s h in
    let P : Side → Type 0 = λ s. (r : Side) × Opposed inside s r in
    subst P a.is (side inside (reverse inside ground a.place a.stands), opposed inside ground a.place a.stands)

-- the bounds of the points inside
pub record Within (n : Sides) (p : Point) : Type 0 where
  pub x_low : 1 ≤ p.x
  pub x_high : p.x ≤ n.nx
  pub y_low : 1 ≤ p.y
  pub y_high : p.y ≤ n.ny
  pub z_low : 1 ≤ p.z
  pub z_high : p.z ≤ n.nz

pub within : (n : Sides) (p : Point) → sampled n p ≡ true → Within n p
within n p h =
    let a = and_parts (leb 1 p.x && leb p.x n.nx && (leb 1 p.y && leb p.y n.ny)) (leb 1 p.z && leb p.z n.nz) h in
    let b = and_parts (leb 1 p.x && leb p.x n.nx) (leb 1 p.y && leb p.y n.ny) a.0 in
    let x = and_parts (leb 1 p.x) (leb p.x n.nx) b.0 in
    let y = and_parts (leb 1 p.y) (leb p.y n.ny) b.1 in
    let z = and_parts (leb 1 p.z) (leb p.z n.nz) a.1 in
    record {
      x_low = leb-true 1 p.x x.0;
      x_high = leb-true p.x n.nx x.1;
      y_low = leb-true 1 p.y y.0;
      y_high = leb-true p.y n.ny y.1;
      z_low = leb-true 1 p.z z.0;
      z_high = leb-true p.z n.nz z.1;
    }

pub padded_grounded : PaddedGrounded
padded_grounded n inside h p a = let k = within n p (h p a) in (k.x_low, k.y_low, k.z_low)

pub below : (n : Sides) (B : Point) (t m : ℕ) (p : Point) → p ≡ vertex B t m → Within n p → Base n B
unfolding vertex ◌⊕◌ offset
below n B t m p e h =
    let c = corner t m in
    let ex : p.x ≡ B.x + c % 2 = ap (λ (v : Point). v.x) e in
    let ey : p.y ≡ B.y + (c / 2) % 2 = ap (λ (v : Point). v.y) e in
    let ez : p.z ≡ B.z + (c / 4) % 2 = ap (λ (v : Point). v.z) e in
    record { x = omega arith; y = omega arith; z = omega arith }

kept_place : (n : Sides) (inside : Point → Bool) → Padded n inside → (p : Place) → Stands inside p → Base n p.base
unfolding crossed
kept_place n inside pad p h =
    one_true (inside (begins inside p).low) (inside (top (begins inside p))) (begins_crossed inside p h)
    (λ a. below n p.base p.tet _ (begins inside p).low (begins_low inside p h) (within n _ (pad _ a)))
    (λ a. below n p.base p.tet _ (top (begins inside p)) (begins_top inside p h) (within n _ (pad _ a)))

pub kept : Kept
unfolding side
kept n inside pad s h =
    let a = seated inside s h in
    subst (λ (s : Side). Base n s.base) a.is (kept_place n inside pad a.place a.stands)
