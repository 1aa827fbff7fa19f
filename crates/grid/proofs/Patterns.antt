-- The flags of a cell's corners say all that its triangles and crossed edges depend on. Assumes nothing.
use Rattle.std.proofs.Common.{◌≡◌, ℕ, suc, ◌+◌, ◌/◌, ◌%◌, ◌<◌, ◌≤◌, Bool, true, false, cond, not, ◌&&◌, eqb, leb, List, [], ◌∷◌, ◌++◌, map, length, get_or, take, filter, sym, refl, ap, ◌∙◌, append-nil, add_assoc, arith}
use mathlib.Core.Bool.{beq}
use Rattle.std.proofs.lemmas.List.Elements.{filter_more}
use Rattle.std.proofs.lemmas.List.{map_push, get_or-map, take_more, flat_map_more}
use Rattle.std.specs.List.{flat_map}
use Rattle.std.proofs.lemmas.Bool.{eqb-true, leb-true, and_parts}
use Rattle.grid.specs.declared.geometry.Point.{Point}
use Rattle.grid.specs.Points.{◌⊕◌, offset, top, differ, crossed}
use Rattle.grid.specs.Cells.{tetrahedra, corner, vertex, mask, cell_edges, tet_triangles, cell_triangles}
use Rattle.grid.specs.Patterns.{six, codes, spans, no_span, span_edge, span_crossed, corner_flags, flag, flag_mask, flag_tet, flag_triangles, flag_edges}
use Rattle.grid.proofs.Below.{below, below_at}

pub six_at : (t : ℕ) → t < 6 → get_or six t 0 ≡ t
six_at t h = eqb-true (get_or six t 0) t (below_at (λ k. eqb (get_or six k 0) k) 6 refl t h)

-- the triangles of a cell, one tetrahedron further
pub tet_more : (flags : List Bool) (B : Point) (t : ℕ) → t < 6 → flat_map (flag_tet flags B) (take (t + 1) six) ≡ flat_map (flag_tet flags B) (take t six) ++ flag_tet flags B t
tet_more flags B t h =
    ap (flat_map (flag_tet flags B)) (take_more six t 0 h)
    ∙ sym (flat_map_more (flag_tet flags B) [] (take t six) (get_or six t 0))
    ∙ ap (λ (n : ℕ). flat_map (flag_tet flags B) (take t six) ++ flag_tet flags B n) (six_at t h)

-- what a filter keeps, one element further
module _ {X Y : Type 0} (p : X → Bool) (g : X → Y) (xs : List X) (i : ℕ) (d : X) (b : i < length xs) where
  pub kept_yes : p (get_or xs i d) ≡ true → map g (filter p (take (i + 1) xs)) ≡ map g (filter p (take i xs)) ++ g (get_or xs i d) ∷ []
  kept_yes t = ap (map g) (filter_more p xs i d b ∙ ap (λ (q : Bool). filter p (take i xs) ++ cond q (get_or xs i d ∷ []) []) t) ∙ map_push g (filter p (take i xs)) (get_or xs i d)

  pub kept_no : p (get_or xs i d) ≡ false → map g (filter p (take (i + 1) xs)) ≡ map g (filter p (take i xs))
  kept_no t = ap (map g) (filter_more p xs i d b ∙ ap (λ (q : Bool). filter p (take i xs) ++ cond q (get_or xs i d ∷ []) []) t ∙ append-nil (filter p (take i xs)))

-- two flags differ where they are not equal
pub differ_is : (a b : Bool) → differ a b ≡ not (beq a b)
differ_is true true = refl
differ_is true false = refl
differ_is false true = refl
differ_is false false = refl

-- an edge of a cell stays in the cell
staying : below (λ i. leb ((get_or spans i no_span).corner + (get_or spans i no_span).direction) 7) 19 ≡ true
staying = refl

pub span_stays : (i : ℕ) → i < 19 → (get_or spans i no_span).corner + (get_or spans i no_span).direction ≤ 7
span_stays i h = leb-true ((get_or spans i no_span).corner + (get_or spans i no_span).direction) 7 (below_at (λ k. leb ((get_or spans k no_span).corner + (get_or spans k no_span).direction) 7) 19 staying i h)

-- a filter before and after a map, and two filters that agree
choose : {X Y : Type 0} (g : X → Y) (x : X) (ys : List X) (b : Bool) → cond b (g x ∷ map g ys) (map g ys) ≡ map g (cond b (x ∷ ys) ys)
choose g x ys true = refl
choose g x ys false = refl

pub kept_by_map : {X Y : Type 0} (p : Y → Bool) (g : X → Y) (xs : List X) → filter p (map g xs) ≡ map g (filter (λ x. p (g x)) xs)
kept_by_map p g [] = refl
kept_by_map p g (x ∷ xs) =
    (λ j. cond (p (g x)) (g x ∷ kept_by_map p g xs j) (kept_by_map p g xs j)) ∙ choose g x (filter (λ y. p (g y)) xs) (p (g x))

pub kept_by_same : {X : Type 0} (p q : X → Bool) (xs : List X) (d : X) → ((i : ℕ) → i < length xs → p (get_or xs i d) ≡ q (get_or xs i d)) → filter p xs ≡ filter q xs
kept_by_same p q [] d h = refl
kept_by_same p q (x ∷ xs) d h =
    (λ j. cond (h 0 (omega arith) j) (x ∷ kept_by_same p q xs d (λ i b. h (suc i) (omega arith)) j) (kept_by_same p q xs d (λ i b. h (suc i) (omega arith)) j))

-- the upper end of an edge of a cell is one of the cell's corners
point : {x y z a b c : ℕ} → x ≡ a → y ≡ b → z ≡ c → ◌≡◌ {A = Point} (record { x = x; y = y; z = z }) (record { x = a; y = b; z = c })
point p q r = λ i. record { x = p i; y = q i; z = r i }

abbrev joins : ℕ → Bool
joins i =
    let c = (get_or spans i no_span).corner in
    let d = (get_or spans i no_span).direction in
    eqb (c % 2 + d % 2) ((c + d) % 2) && (eqb (c / 2 % 2 + d / 2 % 2) ((c + d) / 2 % 2) && eqb (c / 4 % 2 + d / 4 % 2) ((c + d) / 4 % 2))

joining : below joins 19 ≡ true
joining = refl

pub span_top : (B : Point) (i : ℕ) → i < 19 → top (span_edge B (get_or spans i no_span)) ≡ B ⊕ offset ((get_or spans i no_span).corner + (get_or spans i no_span).direction)
unfolding top ◌⊕◌ offset
span_top B i h =
    let c = (get_or spans i no_span).corner in
    let d = (get_or spans i no_span).direction in
    let t = below_at joins 19 joining i h in
    let p = and_parts (eqb (c % 2 + d % 2) ((c + d) % 2)) (eqb (c / 2 % 2 + d / 2 % 2) ((c + d) / 2 % 2) && eqb (c / 4 % 2 + d / 4 % 2) ((c + d) / 4 % 2)) t in
    let q = and_parts (eqb (c / 2 % 2 + d / 2 % 2) ((c + d) / 2 % 2)) (eqb (c / 4 % 2 + d / 4 % 2) ((c + d) / 4 % 2)) p.1 in
    point
    (add_assoc B.x (c % 2) (d % 2) ∙ ap (λ (n : ℕ). B.x + n) (eqb-true (c % 2 + d % 2) ((c + d) % 2) p.0))
    (add_assoc B.y (c / 2 % 2) (d / 2 % 2) ∙ ap (λ (n : ℕ). B.y + n) (eqb-true (c / 2 % 2 + d / 2 % 2) ((c + d) / 2 % 2) q.0))
    (add_assoc B.z (c / 4 % 2) (d / 4 % 2) ∙ ap (λ (n : ℕ). B.z + n) (eqb-true (c / 4 % 2 + d / 4 % 2) ((c + d) / 4 % 2) q.1))

pub code_at : (c : ℕ) → c < 8 → get_or codes c 0 ≡ c
code_at c h = eqb-true (get_or codes c 0) c (below_at (λ k. eqb (get_or codes k 0) k) 8 refl c h)

-- the flag of a corner
pub flag_at : (inside : Point → Bool) (B : Point) (c : ℕ) → c < 8 → flag (corner_flags inside B) c ≡ inside (B ⊕ offset c)
unfolding corner_flags
flag_at inside B c h = get_or-map (λ (n : ℕ). inside (B ⊕ offset n)) codes c 0 false h ∙ ap (λ (n : ℕ). inside (B ⊕ offset n)) (code_at c h)

pub edges_listed : (B : Point) → cell_edges B ≡ map (span_edge B) spans
unfolding cell_edges
edges_listed B = refl

-- a span is crossed as its edge is
pub crossed_as : (inside : Point → Bool) (B : Point) (i : ℕ) → i < 19 → span_crossed (corner_flags inside B) (get_or spans i no_span) ≡ crossed inside (span_edge B (get_or spans i no_span))
unfolding crossed
crossed_as inside B i h =
    let s = get_or spans i no_span in
    let k = span_stays i h in
    (λ j. differ (flag_at inside B s.corner (omega arith) j) ((flag_at inside B (s.corner + s.direction) (omega arith) ∙ ap inside (sym (span_top B i h))) j))

-- the crossed edges of a cell, by the flags of its corners
pub edges_by_flags : (inside : Point → Bool) (B : Point) → flag_edges (corner_flags inside B) B ≡ filter (crossed inside) (cell_edges B)
unfolding flag_edges
edges_by_flags inside B =
    ap (map (span_edge B)) (kept_by_same (span_crossed (corner_flags inside B)) (λ s. crossed inside (span_edge B s)) spans no_span (crossed_as inside B))
    ∙ sym (kept_by_map (crossed inside) (span_edge B) spans) ∙ ap (filter (crossed inside)) (sym (edges_listed B))

-- and its triangles
pub triangles_by_flags : (inside : Point → Bool) (B : Point) → flag_triangles (corner_flags inside B) B ≡ cell_triangles inside B
unfolding flag_triangles cell_triangles flag_tet tet_triangles flag_mask mask corner_flags vertex corner tetrahedra
triangles_by_flags inside B = refl
