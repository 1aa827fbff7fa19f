-- Parent pointers that never point upward, and what they stand for.
use Rattle.std.specs.Prelude.{◌≡◌, ℕ, ◌<◌, ◌≤◌, Bool, cond, List, [], ◌∷◌, length, ◌==◌, min, max, slice_index_or, count_by}
use Rattle.std.specs.List.{enumerate_from}
use Rattle.grid.specs.declared.geometry.Triangle.{Triangle}
use Rattle.mesh.specs.declared.verdicts.VertexRecord.{VertexRecord}
use Rattle.mesh.specs.VertexNotes.{no_record}

abbrev pub parent_of : List VertexRecord → ℕ → ℕ
parent_of ps x = (slice_index_or ps x no_record).parent

-- how many are their own parents
abbrev pub roots : List VertexRecord → ℕ
roots ps = count_by (λ (q : ℕ × VertexRecord). q.1.parent == q.0) (enumerate_from 0 ps)

-- `f x` is the vertex at which the way up from `x` ends
pub record Forest (f : ℕ → ℕ) (ps : List VertexRecord) : Type 0 where
  pub low : (x : ℕ) → x < length ps → parent_of ps x ≤ x
  pub same : (x : ℕ) → x < length ps → f (parent_of ps x) ≡ f x
  pub root : (x : ℕ) → x < length ps → parent_of ps x ≡ x → f x ≡ x

-- `f` gives each vertex one that stands for its group
pub record Settled (f : ℕ → ℕ) : Type 0 where
  pub low : (x : ℕ) → f x ≤ x
  pub again : (x : ℕ) → f (f x) ≡ f x

-- what stands for the group of `y`, after those of `p` and `q` became one, for which the smaller stands
abbrev pub link : ℕ → ℕ → ℕ → ℕ
link p q y = cond (y == max p q) (min p q) y

abbrev pub merge : (ℕ → ℕ) → ℕ → ℕ → ℕ → ℕ
merge f u v y = link (f u) (f v) (f y)

-- the groups of a triangle's corners become one
abbrev pub merge_corners : (ℕ → ℕ) → Triangle ℕ → ℕ → ℕ
merge_corners f t = merge (merge f t.a t.b) t.b t.c

-- and so for one triangle after another
unfoldable pub labels : (ℕ → ℕ) → List (Triangle ℕ) → ℕ → ℕ
labels f [] = f
labels f (t ∷ ts) = labels (merge_corners f t) ts

-- `f` leaves the number as it is
abbrev pub fixes : (ℕ → ℕ) → ℕ → Bool
fixes f x = f x == x
