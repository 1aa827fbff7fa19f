-- What the calls on a surface keep: the skin law, after every run.
use Rattle.std.specs.Prelude.{◌≡◌, ℕ, ◌≢◌}
use Rattle.std.specs.List.{ContainsAt as Has}
use Rattle.grid.specs.Points.{Sides}
use Rattle.topology.specs.Crossings.{NoRepeat}
use Rattle.topology.specs.Sides.{Padded}
use Rattle.surface.specs.Marches.{State, Field}
use Rattle.surface.specs.Runs.{Run, accepted_cells}
use Rattle.surface.specs.Skins.{Marched, Skin}

-- no point on the border or beyond is inside: so it is for the field of every volume
abbrev pub Bounded : Field → Type 0
Bounded f = Padded f.sides f.inside

-- after a run the marched cells are those whose marches were accepted in it, each once, and their skin keeps the law
pub record Lawful (f : Field) (s : State) (r : Run f s) : Type 0 where
  pub once : NoRepeat (accepted_cells f s r)
  pub marched : (c : ℕ) → Has (accepted_cells f s r) c → Marched f s c
  pub accepted : (c : ℕ) → Marched f s c → Has (accepted_cells f s r) c
  pub skin : Skin f s

-- a surface that begins is a run of every field of its shape
pub record BeginsSkin (n : Sides) (s : State) : Type 0 where
  pub run : (f : Field) → f.sides ≡ n → Run f s
  pub law : (f : Field) → Bounded f → (r : Run f s) → Lawful f s r

-- A call with the field f takes the state s to t. Then a run of f that led to s goes on to t, and every run of f that ends there is lawful.
-- So it is with the runs of any field of another shape, on which the call is one that was refused.
pub record KeepsSkin (f : Field) (s t : State) : Type 0 where
  pub run : Run f s → Run f t
  pub law : (r : Run f t) → Lawful f t r
  pub other_run : (g : Field) → (f.sides ≢ g.sides) → Run g s → Run g t
  pub other_law : (g : Field) → (f.sides ≢ g.sides) → Bounded g → (r : Run g t) → Lawful g t r
