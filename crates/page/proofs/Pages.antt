-- The calls that make the page of a mesh, one after another.
use Rattle.std.proofs.Common.{◌≡◌, ℕ, ◌+◌, ◌<◌, List, [], ◌++◌, map, length, get_or, Some, None, Ok, Err, sym, refl, ap, ◌∙◌, subst, append-nil, arith}
use lib.Seq.{sets}
use Rattle.std.specs.List.{flat_map}
use Rattle.std.proofs.lemmas.List.{take_all, length-map, get_or-map}
use Rattle.grid.specs.declared.geometry.Triangle.{Triangle}
use Rattle.refusal.specs.declared.refusals.Refusal.{Refusal}
use Rattle.mesh.specs.declared.records.Coordinates.{Coordinates}
use Rattle.page.specs.Text.{header, vertex_line, face_line, page}
use Rattle.page.specs.Lines.{Line, heading, vertex, face, stage_refusal}
use Rattle.page.specs.Answers.{begun, BeginAnswer, LineAnswer, VertexAnswer, FaceAnswer}
use Rattle.page.specs.Whole.{mesh, Outcome, outcome, page_outcome, Shown, Stopped}
use Rattle.page.specs.declared.states.Declined.{Declined}
use Rattle.page.specs.declared.states.Open.{Open}
use Rattle.page.proofs.Steps.{in_stage, Reached, go_on, stop, whole, text_to, Kept, kept_none, free_more, kept_more, kept_stop, kept_all, page_at}

-- i lines of a stage are written, one for each of `xs`, behind `start`: the page for v vertices and f faces, and its buffer
pub record Stage {X : Type 0} (line : X → Line) (xs : List X) (v f : ℕ) (start : List ℕ) (others : List Line) (i : ℕ) (first now : List ℕ) (p : Open X) : Type 0 where
  pub page : p ≡ page_at v f i (text_to line xs start i)
  pub kept : Kept line xs start others i first now

-- a stage begins
pub stage_none : {X : Type 0} {line : X → Line} {xs : List X} {v f : ℕ} {start : List ℕ} {others : List Line} {now : List ℕ} {p : Open X} → p ≡ page_at v f 0 start → Stage line xs v f start others 0 now now p
stage_none {X} {line} {xs} {v} {f} {start} {others} {now} {p} e = record {
  page = e ∙ ap (λ (t : List ℕ). page_at v f 0 t) (sym (append-nil start));
  kept = kept_none line xs start others now;
}

-- a line of it is written
pub stage_more : {X : Type 0} {line : X → Line} {xs : List X} {v f : ℕ} {start : List ℕ} {others : List Line} {i : ℕ} {first now after : List ℕ} {p q : Open X} {x : X} (d : X) → i < length xs → get_or xs i d ≡ x
    → Stage line xs v f start others i first now p → LineAnswer (length xs) (page_at v f i (text_to line xs start i)) (line x) now after (Ok q)
    → Stage line xs v f start others (i + 1) first after q
stage_more {X} {line} {xs} {v} {f} {start} {others} {i} {first} {now} {after} {p} {q} {x} d h at s a =
    let free = length (text_to line xs start i) in
    let none = subst (λ (y : X). stage_refusal (length xs) i (line y).outside (length (line y).text) free (length now) ≡ None) (sym at) a.0 in
    let more = subst (λ (y : X). free + length (line y).text ≡ length (text_to line xs start (i + 1))) at (free_more line xs start i d h) in
    let l = line (get_or xs i d) in
    record {
      page = a.1 ∙ (λ j. record { vertices = v; faces = f; written = i + 1; free = more j; stage = record {} });
      kept =
          kept_more line xs start others i first now after d h s.kept
          (sym (in_stage (length xs) i l.outside (length l.text) free (length now) h) ∙ none)
          (a.2 ∙ ap (λ (y : X). sets now free (line y).text) (sym at));
    }

-- a line of it is refused: what is written is what comes of the whole
pub stage_stop : {X : Type 0} {line : X → Line} {xs : List X} {v f : ℕ} {start : List ℕ} {others : List Line} {i : ℕ} {first now after before : List ℕ} {all : Outcome} {p : Open X} {r : Declined (Open X)} {x : X} (d : X) → i < length xs → get_or xs i d ≡ x
    → Stage line xs v f start others i first now p → LineAnswer (length xs) (page_at v f i (text_to line xs start i)) (line x) now after (Err r)
    → Reached before all start (map line xs ++ others) first
    → (all.why ≡ Some r.why) × (after ≡ sets before 0 all.text)
stage_stop {X} {line} {xs} {v} {f} {start} {others} {i} {first} {now} {after} {before} {all} {p} {r} {x} d h at s a reached =
    let free = length (text_to line xs start i) in
    let some = subst (λ (y : X). stage_refusal (length xs) i (line y).outside (length (line y).text) free (length now) ≡ Some r.why) (sym at) a.0 in
    let l = line (get_or xs i d) in
    let m =
    kept_stop line xs start others i first now d r.why h s.kept
    (sym (in_stage (length xs) i l.outside (length l.text) free (length now) h) ∙ some) before all reached in
    (m.0, a.2 ∙ m.1)

-- it has all its lines
pub stage_all : {X : Type 0} {line : X → Line} {xs : List X} {v f : ℕ} {start : List ℕ} {others : List Line} {i : ℕ} {first now : List ℕ} {p : Open X} → i ≡ length xs
    → Stage line xs v f start others i first now p → p ≡ page_at v f (length xs) (start ++ flat_map (λ (x : X). (line x).text) xs)
stage_all {X} {line} {xs} {v} {f} {start} {others} {i} {first} {now} {p} e s =
    s.page
    ∙ ap (λ (z : List X). page_at v f i (start ++ flat_map (λ (x : X). (line x).text) z)) (take_all i xs (omega arith))
    ∙ ap (λ (k : ℕ). page_at v f k (start ++ flat_map (λ (x : X). (line x).text) xs)) e

pub stage_reached : {X : Type 0} {line : X → Line} {xs : List X} {v f : ℕ} {start : List ℕ} {others : List Line} {i : ℕ} {first now before : List ℕ} {all : Outcome} {p : Open X} → i ≡ length xs
    → Stage line xs v f start others i first now p → Reached before all start (map line xs ++ others) first
    → Reached before all (start ++ flat_map (λ (x : X). (line x).text) xs) others now
stage_reached {X} {line} {xs} {v} {f} {start} {others} {i} {first} {now} {before} {all} {p} e s r =
    kept_all line xs start others i first now (omega arith) s.kept before all r

-- the stages of a mesh's page
abbrev pub Vertices : List Coordinates → List (Triangle ℕ) → ℕ → List ℕ → List ℕ → Open Coordinates → Type 0
Vertices vs ts i first now p =
    Stage vertex vs (length vs) (length ts) (header (length vs) (length ts)) (map (face (length vs)) ts) i first now p

abbrev pub Faces : List Coordinates → List (Triangle ℕ) → ℕ → List ℕ → List ℕ → Open (Triangle ℕ) → Type 0
Faces vs ts i first now p =
    Stage (face (length vs)) ts (length vs) (length ts) (header (length vs) (length ts) ++ flat_map vertex_line vs) [] i first now p

-- before the first line
start_of : (before : List ℕ) (ls : List Line) → Reached before (outcome (length before) [] ls) [] ls before
start_of before ls = record { bytes = refl; fits = omega arith; rest = refl }

pub begin_stop : {X : Type 0} (place : X → Coordinates) (xs : List X) (ts : List (Triangle ℕ)) (before after : List ℕ) (e : Refusal)
    → BeginAnswer (length xs) (length ts) before after (Err e) → Stopped (mesh (map place xs) ts) before after e
begin_stop place xs ts before after e a =
    let vs = map place xs in
    let b = subst (λ (k : ℕ). BeginAnswer k (length ts) before after (Err e)) (sym (length-map xs place)) a in
    let m = stop before _ [] (heading (length vs) (length ts)) (map vertex vs ++ map (face (length vs)) ts) before e b.0 (start_of before _) in
    record { refused = m.0; bytes = b.1 ∙ m.1 }

-- the first two lines are written
pub begin_on : {X : Type 0} (place : X → Coordinates) (xs : List X) (ts : List (Triangle ℕ)) (before after : List ℕ) (p : Open Coordinates)
    → BeginAnswer (length xs) (length ts) before after (Ok p)
    → let vs = map place xs in
    (p ≡ begun (length vs) (length ts))
    × Reached before (page_outcome (length before) (mesh vs ts)) (header (length vs) (length ts)) (map vertex vs ++ map (face (length vs)) ts) after
begin_on place xs ts before after p a =
    let vs = map place xs in
    let b = subst (λ (k : ℕ). BeginAnswer k (length ts) before after (Ok p)) (sym (length-map xs place)) a in
    (b.1, go_on before _ [] (heading (length vs) (length ts)) (map vertex vs ++ map (face (length vs)) ts) before after b.0 b.2 (start_of before _))

-- the element that a turn takes, as a place
pub at_place : {X : Type 0} (place : X → Coordinates) (xs : List X) (i : ℕ) (x : X) (v : Coordinates) → i < length xs → x ≡ get_or xs i x → v ≡ place x
    → (i < length (map place xs)) × (get_or (map place xs) i v ≡ v)
at_place place xs i x v h is e = (simp length-map h, get_or-map place xs i x v h ∙ ap place (sym is) ∙ sym e)

-- a turn of each stage
pub vertices_more : {vs : List Coordinates} (ts : List (Triangle ℕ)) {i : ℕ} {first now after : List ℕ} {p q : Open Coordinates} {v : Coordinates} → i < length vs → get_or vs i v ≡ v
    → Vertices vs ts i first now p → VertexAnswer p v now after (Ok q) → Vertices vs ts (i + 1) first after q
vertices_more {vs} ts {i} {first} {now} {after} {p} {q} {v} h at s a =
    stage_more v h at s (subst (λ (z : Open Coordinates). VertexAnswer z v now after (Ok q)) s.page a)

pub faces_more : (vs : List Coordinates) {ts : List (Triangle ℕ)} {i : ℕ} {first now after : List ℕ} {p q : Open (Triangle ℕ)} (t : Triangle ℕ) → i < length ts
    → Faces vs ts i first now p → FaceAnswer p (get_or ts i t) now after (Ok q) → Faces vs ts (i + 1) first after q
faces_more vs {ts} {i} {first} {now} {after} {p} {q} t h s a =
    stage_more t h refl s (subst (λ (z : Open (Triangle ℕ)). FaceAnswer z (get_or ts i t) now after (Ok q)) s.page a)

pub vertices_stop : {vs : List Coordinates} (ts : List (Triangle ℕ)) {i : ℕ} {first now after before : List ℕ} {all : Outcome} {p : Open Coordinates} {d : Declined (Open Coordinates)} {v : Coordinates} → i < length vs → get_or vs i v ≡ v
    → Vertices vs ts i first now p → VertexAnswer p v now after (Err d)
    → Reached before all (header (length vs) (length ts)) (map vertex vs ++ map (face (length vs)) ts) first
    → (all.why ≡ Some d.why) × (after ≡ sets before 0 all.text)
vertices_stop {vs} ts {i} {first} {now} {after} {before} {all} {p} {d} {v} h at s a r =
    stage_stop v h at s (subst (λ (z : Open Coordinates). VertexAnswer z v now after (Err d)) s.page a) r

pub faces_stop : (vs : List Coordinates) {ts : List (Triangle ℕ)} {i : ℕ} {first now after before : List ℕ} {all : Outcome} {p : Open (Triangle ℕ)} {d : Declined (Open (Triangle ℕ))} (t : Triangle ℕ) → i < length ts
    → Faces vs ts i first now p → FaceAnswer p (get_or ts i t) now after (Err d)
    → Reached before all (header (length vs) (length ts) ++ flat_map vertex_line vs) (map (face (length vs)) ts ++ []) first
    → (all.why ≡ Some d.why) × (after ≡ sets before 0 all.text)
faces_stop vs {ts} {i} {first} {now} {after} {before} {all} {p} {d} t h s a r =
    stage_stop t h refl s (subst (λ (z : Open (Triangle ℕ)). FaceAnswer z (get_or ts i t) now after (Err d)) s.page a) r

-- between the stages
pub reached_faces : (vs : List Coordinates) (ts : List (Triangle ℕ)) {i : ℕ} {first now before : List ℕ} {all : Outcome} {p : Open Coordinates} → i ≡ length vs
    → Vertices vs ts i first now p → Reached before all (header (length vs) (length ts)) (map vertex vs ++ map (face (length vs)) ts) first
    → Reached before all (header (length vs) (length ts) ++ flat_map vertex_line vs) (map (face (length vs)) ts ++ []) now
reached_faces vs ts {i} {first} {now} {before} {all} {p} e s r =
    subst (λ (ls : List Line). Reached before all (header (length vs) (length ts) ++ flat_map vertex_line vs) ls now) (sym (append-nil (map (face (length vs)) ts)))
    (stage_reached e s r)

-- after the last line
pub reached_end : (vs : List Coordinates) (ts : List (Triangle ℕ)) {i n : ℕ} {first now before : List ℕ} {p : Open (Triangle ℕ)} → i ≡ length ts
    → n ≡ length (header (length vs) (length ts) ++ flat_map vertex_line vs ++ flat_map face_line ts) → Faces vs ts i first now p
    → Reached before (page_outcome (length before) (mesh vs ts)) (header (length vs) (length ts) ++ flat_map vertex_line vs) (map (face (length vs)) ts ++ []) first
    → Shown (mesh vs ts) before now n
unfolding page
reached_end vs ts {i} {n} {first} {now} {before} {p} e long s r =
    whole (mesh vs ts) before now n long (stage_reached e s r)
