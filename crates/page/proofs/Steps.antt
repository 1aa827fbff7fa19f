-- A stage of a page, line after line.
use Rattle.std.proofs.Common.{◌≡◌, ℕ, ◌+◌, ◌<◌, ◌≤◌, Bool, cond, List, [], ◌∷◌, ◌++◌, map, length, get_or, take, drop, Some, None, Option, sym, ap, ◌∙◌, subst, append-nil, arith, length-append, rules}
use lib.Seq.{sets, sets-eq, length-sets}
use Rattle.std.specs.List.{flat_map}
use Rattle.std.proofs.lemmas.List.{flat_map_more, take_at, take_more, take_all, drop_more, drop_all}
use Rattle.std.proofs.lemmas.Bool.{lt-ltb}
use Rattle.refusal.specs.declared.refusals.Refusal.{Refusal}
use Rattle.refusal.specs.declared.refusals.Refusal.TheVariants.{LineCount}
use Rattle.page.specs.Text.{Mesh, page}
use Rattle.page.specs.Lines.{Line, line_refusal, stage_refusal}
use Rattle.page.specs.Whole.{Outcome, unless, outcome, page_outcome, Shown}
use Rattle.page.specs.declared.states.Open.{Open}
use Rattle.page.proofs.Writes.{sets_append}
use Rattle.page.proofs.Apart.{tells_apart}

-- a line that the stage still expects is refused for what is on it, or for want of room
pub in_stage : (announced written : ℕ) (o : Option ℕ) (width free long : ℕ) → written < announced → stage_refusal announced written o width free long ≡ line_refusal o width free long
in_stage announced written o width free long h =
    ap (λ (b : Bool). cond b (line_refusal o width free long) (Some (LineCount written))) (lt-ltb written announced h)

-- a line that is not refused has room
room_left : (o : Option ℕ) (width free long : ℕ) → line_refusal o width free long ≡ None → free + width ≤ long
room_left None width free long e = search rules
room_left (Some n) width free long e = search rules

-- `text` stands in the buffer, and what is left makes `all` of it
pub record Reached (before : List ℕ) (all : Outcome) (text : List ℕ) (left : List Line) (now : List ℕ) : Type 0 where
  pub bytes : now ≡ sets before 0 text
  pub fits : length text ≤ length before
  pub rest : outcome (length before) text left ≡ all

long_as : {before : List ℕ} {all : Outcome} {text : List ℕ} {left : List Line} {now : List ℕ} → Reached before all text left now → length now ≡ length before
long_as {before} {all} {text} r = ap length r.bytes ∙ length-sets before 0 text

abbrev why_not : Line → ℕ → ℕ → Option Refusal
why_not l free long = line_refusal l.outside (length l.text) free long

pub go_on : (before : List ℕ) (all : Outcome) (text : List ℕ) (l : Line) (ls : List Line) (now after : List ℕ)
    → why_not l (length text) (length now) ≡ None → after ≡ sets now (length text) l.text
    → Reached before all text (l ∷ ls) now → Reached before all (text ++ l.text) ls after
unfolding outcome
go_on before all text l ls now after none written r =
    let n = long_as r in
    let fits = room_left l.outside (length l.text) (length text) (length now) none in
    record {
      bytes =
          written
          ∙ ap (λ (z : List ℕ). sets z (length text) l.text) r.bytes
          ∙ ap (λ (k : ℕ). sets (sets before 0 text) k l.text) (omega arith)
          ∙ sym (sets_append before 0 text l.text);
      fits = let e = length-append text l.text in omega arith;
      rest =
          ap (λ (o : Option Refusal). unless o text (outcome (length before) (text ++ l.text) ls))
          (sym (subst (λ (k : ℕ). why_not l (length text) k ≡ None) n none))
          ∙ r.rest;
    }

pub stop : (before : List ℕ) (all : Outcome) (text : List ℕ) (l : Line) (ls : List Line) (now : List ℕ) (e : Refusal)
    → why_not l (length text) (length now) ≡ Some e
    → Reached before all text (l ∷ ls) now → (all.why ≡ Some e) × (now ≡ sets before 0 all.text)
unfolding outcome
stop before all text l ls now e some r =
    let here : record { text = text; why = Some e } ≡ all =
    ap (λ (o : Option Refusal). unless o text (outcome (length before) (text ++ l.text) ls))
    (sym (subst (λ (k : ℕ). why_not l (length text) k ≡ Some e) (long_as r) some))
    ∙ r.rest in
    (sym (ap (λ (o : Outcome). o.why) here), r.bytes ∙ ap (λ (o : Outcome). sets before 0 o.text) here)

pub whole : (m : Mesh) (before now : List ℕ) (n : ℕ) → n ≡ length (page m) → Reached before (page_outcome (length before) m) (page m) [] now → Shown m before now n
unfolding outcome
whole m before now n long r =
    let text : take n now ≡ page m =
    ap (take n) (r.bytes ∙ sets-eq (page m) before 0 (omega (arith, r.fits)))
    ∙ take_at (page m) (drop (0 + length (page m)) before) n (sym long) in
    record {
      accepted = sym (ap (λ (o : Outcome). o.why) r.rest);
      text = text;
      bytes = r.bytes;
      long = long;
      fits = omega (arith, r.fits);
      only = λ o e. tells_apart o m (e ∙ text);
    }

-- a stage writes a line for each of `xs` behind `start`, and the lines `others` follow: its text after i lines, and what is left
abbrev pub text_to : {X : Type 0} → (X → Line) → List X → List ℕ → ℕ → List ℕ
text_to {X} line xs start i = start ++ flat_map (λ (x : X). (line x).text) (take i xs)

abbrev pub left_from : {X : Type 0} → (X → Line) → List X → List Line → ℕ → List Line
left_from line xs others i = map line (drop i xs) ++ others

-- i lines of the stage are written, from the buffer `first` to `now`, whatever was before
abbrev pub Kept : {X : Type 0} → (X → Line) → List X → List ℕ → List Line → ℕ → List ℕ → List ℕ → Type 0
Kept line xs start others i first now =
    (before : List ℕ) (all : Outcome) → Reached before all start (map line xs ++ others) first
    → Reached before all (text_to line xs start i) (left_from line xs others i) now

pub kept_none : {X : Type 0} (line : X → Line) (xs : List X) (start : List ℕ) (others : List Line) (first : List ℕ) → Kept line xs start others 0 first first
kept_none line xs start others first before all r =
    subst (λ (t : List ℕ). Reached before all t (map line xs ++ others) first) (sym (append-nil start)) r

text_more : {X : Type 0} (line : X → Line) (xs : List X) (start : List ℕ) (i : ℕ) (d : X) → i < length xs → text_to line xs start i ++ (line (get_or xs i d)).text ≡ text_to line xs start (i + 1)
text_more {X} line xs start i d h =
    flat_map_more (λ (x : X). (line x).text) start (take i xs) (get_or xs i d)
    ∙ ap (λ (ys : List X). start ++ flat_map (λ (x : X). (line x).text) ys) (sym (take_more xs i d h))

-- the first free byte after one more line
pub free_more : {X : Type 0} (line : X → Line) (xs : List X) (start : List ℕ) (i : ℕ) (d : X) → i < length xs → length (text_to line xs start i) + length (line (get_or xs i d)).text ≡ length (text_to line xs start (i + 1))
free_more line xs start i d h = sym (length-append (text_to line xs start i) (line (get_or xs i d)).text) ∙ ap length (text_more line xs start i d h)

left_more : {X : Type 0} (line : X → Line) (xs : List X) (others : List Line) (i : ℕ) (d : X) → i < length xs → left_from line xs others i ≡ line (get_or xs i d) ∷ left_from line xs others (i + 1)
left_more {X} line xs others i d h = ap (λ (ys : List X). map line ys ++ others) (drop_more xs i d h)

pub kept_more : {X : Type 0} (line : X → Line) (xs : List X) (start : List ℕ) (others : List Line) (i : ℕ) (first now after : List ℕ) (d : X) → i < length xs
    → Kept line xs start others i first now
    → let l = line (get_or xs i d) in why_not l (length (text_to line xs start i)) (length now) ≡ None → after ≡ sets now (length (text_to line xs start i)) l.text
    → Kept line xs start others (i + 1) first after
kept_more line xs start others i first now after d h kept none written before all r =
    let l = line (get_or xs i d) in
    let k = subst (λ (ls : List Line). Reached before all (text_to line xs start i) ls now) (left_more line xs others i d h) (kept before all r) in
    subst (λ (t : List ℕ). Reached before all t (left_from line xs others (i + 1)) after) (text_more line xs start i d h)
    (go_on before all (text_to line xs start i) l (left_from line xs others (i + 1)) now after none written k)

pub kept_stop : {X : Type 0} (line : X → Line) (xs : List X) (start : List ℕ) (others : List Line) (i : ℕ) (first now : List ℕ) (d : X) (e : Refusal) → i < length xs
    → Kept line xs start others i first now
    → why_not (line (get_or xs i d)) (length (text_to line xs start i)) (length now) ≡ Some e
    → (before : List ℕ) (all : Outcome) → Reached before all start (map line xs ++ others) first
    → (all.why ≡ Some e) × (now ≡ sets before 0 all.text)
kept_stop line xs start others i first now d e h kept some before all r =
    stop before all (text_to line xs start i) (line (get_or xs i d)) (left_from line xs others (i + 1)) now e some
    (subst (λ (ls : List Line). Reached before all (text_to line xs start i) ls now) (left_more line xs others i d h) (kept before all r))

pub kept_all : {X : Type 0} (line : X → Line) (xs : List X) (start : List ℕ) (others : List Line) (i : ℕ) (first now : List ℕ) → length xs ≤ i
    → Kept line xs start others i first now
    → (before : List ℕ) (all : Outcome) → Reached before all start (map line xs ++ others) first
    → Reached before all (start ++ flat_map (λ (x : X). (line x).text) xs) others now
kept_all {X} line xs start others i first now h kept before all r =
    subst (λ (ys : List X). Reached before all (start ++ flat_map (λ (x : X). (line x).text) ys) others now) (take_all i xs h)
    (subst (λ (ys : List X). Reached before all (text_to line xs start i) (map line ys ++ others) now) (drop_all i xs h) (kept before all r))

-- a page for v vertices and f faces after some lines of a stage, where `text` stands in the buffer
abbrev pub page_at : {X : Type 0} → (v f written : ℕ) → List ℕ → Open X
page_at v f written text = record { vertices = v; faces = f; written = written; free = length text; stage = record {} }
