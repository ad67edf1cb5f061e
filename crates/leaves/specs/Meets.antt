-- What a phrase function promises.
-- Assumes nothing.
use Rattle.std.specs.Prelude.{◌≡◌, List, [], ◌∷◌, ◌++◌, ℕ, ◌+◌, ◌-◌, ◌*◌, ◌≤◌, ◌<◌, length, Result, Ok, Err}
use Rattle.std.proofs.lemmas.List.Edits.{sets}
use Rattle.lexemes.specs.Kinds.{R_BRACK, DOT, ASSIGN}
use Rattle.grammar.specs.Tags.{SLICE, BIND}
use Rattle.grammar.specs.Trees.{Field, byte, number, Trees, count as size}
use Rattle.grammar.specs.Image.{image}
use Rattle.grammar.specs.Lexemes.{Lexeme}
use Rattle.grammar.specs.Productions.{Phrase, Body, end, goto, ◌▸◌, Step, eat, sub, close, expression, suffix, field_named, argument, argument_end, null_safe}
use Rattle.grammar.specs.Reading.{Outcome, broken, Reading}
use Rattle.grammar.specs.Answer.{prefix_power}
use Rattle.leaves.specs.Lexing.{Left, Stands}
use Rattle.leaves.specs.declared.Cursor.{Cursor}
use Rattle.leaves.specs.declared.Refusal.{Refusal}
use Rattle.leaves.specs.declared.Done.{Done}

-- The prefix power of a setting.
abbrev pub power : ℕ → ℕ
power g = prefix_power g

-- Where a phrase may start, with w bytes of image written: an image has at most 32 bytes for each byte that is read.
pub record Ready (s : List ℕ) (c : Cursor) (w : ℕ) : Type 0 where
  pub stands : Stands s c
  pub room : w ≤ 32 * c.at

-- A state of a phrase: what it goes on with, how many trees it has, where it reads and writes, the output.
pub record State : Type 0 where
  pub body : Body
  pub count : ℕ
  pub cursor : Cursor
  pub written : ℕ
  pub out : List ℕ

abbrev pub state : Body → ℕ → Cursor → ℕ → List ℕ → State
state b n c w o = record { body = b; count = n; cursor = c; written = w; out = o }

-- A reading comes from a body, its trees, a place and what is left there to later ones: whatever the outcome there, it is the outcome here.
pub record Comes (g : ℕ) (s : List ℕ) (d : ℕ) (b : Body) (ts : Trees) (p : ℕ) (xs : List Lexeme) (b₁ : Body) (ts₁ : Trees) (p₁ : ℕ) : Type 0 where
  pub left : List Lexeme
  pub kept : Left s p₁ left
  pub back : (o : Outcome) → Reading (power g) g b₁ ts₁ d p₁ left o → Reading (power g) g b ts d p xs o

-- A stretch of a phrase, at d levels of depth: from one state to a later one, whatever trees it had. It has surely taken e bytes, and has
-- written v bytes beyond 32 for each other byte that it has taken.
pub record Seg (g : ℕ) (s : List ℕ) (d : ℕ) (from : State) (e v : ℕ) (to : State) : Type 0 where
  pub bytes : List ℕ
  pub trees : Trees → Trees
  pub counted : (ts : Trees) → size ts ≡ from.count → size (trees ts) ≡ to.count
  pub imaged : (ts : Trees) → image (trees ts) ≡ image ts ++ bytes
  pub run : (ts : Trees) (xs : List Lexeme) → size ts ≡ from.count → Left s from.cursor.at xs
      → Comes g s d from.body ts from.cursor.at xs to.body (trees ts) to.cursor.at
  pub stored : to.out ≡ sets from.out from.written bytes
  pub wrote : to.written ≡ from.written + length bytes
  pub stands : Stands s from.cursor → Stands s to.cursor
  pub onward : from.cursor.at + e ≤ to.cursor.at
  pub credit : to.written + 32 * (from.cursor.at + e) ≤ from.written + 32 * to.cursor.at + v

-- A reading is broken off at a refusal.
pub record Stops (g : ℕ) (s : List ℕ) (d : ℕ) (b : Body) (ts : Trees) (p : ℕ) (xs : List Lexeme) (r : Refusal) : Type 0 where
  pub left : List Lexeme
  pub kept : Left s r.place.at left
  pub reading : Reading (power g) g b ts d p xs (broken r.number r.place.at left r.detail)

-- From a state the reading ends at that refusal.
pub record Breaks (g : ℕ) (s : List ℕ) (d : ℕ) (from : State) (r : Refusal) : Type 0 where
  pub breaks : (ts : Trees) (xs : List Lexeme) → size ts ≡ from.count → Left s from.cursor.at xs → Stops g s d from.body ts from.cursor.at xs r
  pub stands : Stands s r.place

-- ── Answers ───────────────────────────────────────────────────────────────────────────────────────

-- What a phrase function answers with: where the phrase ended, or its refusal.
abbrev pub Answer : Type 0
Answer = Result Done Refusal

-- It ended at c, with w bytes written, and a number k.
abbrev pub reached : Cursor → ℕ → ℕ → Answer
reached c w k = Ok (record { 0 = c; 1 = w; 2 = k })

-- What a suffix and a field's name tell.
abbrev pub suffixes : ℕ → Body
suffixes f = goto (suffix f)

abbrev pub titled : ℕ → ℕ → Body
titled a c = goto (field_named c a)

unfoldable pub Led : ℕ → List ℕ → ℕ → State → ℕ → Body → ℕ → Answer → List ℕ → Type 0
Led g s d from v b n (Ok x) o = Seg g s d from 0 v (state b n x.0 x.1 o)
Led g s d from v b n (Err r) o = Breaks g s d from r

-- An answer that leads from a state on to body b with n trees, or breaks off. Of the bytes written it may owe v, which whoever asks pays.
pub record Leads (g : ℕ) (s : List ℕ) (d : ℕ) (from : State) (v : ℕ) (b : Body) (n : ℕ) (a : Answer) (o : List ℕ) : Type 0 where
  pub led : Led g s d from v b n a o

-- An answer that takes one step of whatever production, adds k trees, and may owe v bytes.
pub record Takes (g : ℕ) (s : List ℕ) (st : Step) (k v d : ℕ) (c : Cursor) (w : ℕ) (o : List ℕ) (a : Answer) (o₁ : List ℕ) : Type 0 where
  pub takes : (b : Body) (n : ℕ) → Leads g s d (state (st ▸ b) n c w o) v b (n + k) a o₁

-- Where it is done, an answer is further on than that place.
abbrev pub Onward : Cursor → Answer → Type 0
Onward c a = (c₁ : Cursor) (w n : ℕ) → a ≡ reached c₁ w n → c.at < c₁.at

-- The same of a step that surely takes a byte.
pub record TakesSome (g : ℕ) (s : List ℕ) (st : Step) (k v d : ℕ) (c : Cursor) (w : ℕ) (o : List ℕ) (a : Answer) (o₁ : List ℕ) : Type 0 where
  pub takes : Takes g s st k v d c w o a o₁
  pub some : Onward c a

unfoldable pub Counted : ℕ → List ℕ → Phrase → ℕ → ℕ → Cursor → ℕ → List ℕ → Answer → List ℕ → Type 0
Counted g s q v d c w o (Ok x) o₁ = Takes g s (sub q) x.2 v d c w o (Ok x) o₁ × (c.at + x.2 ≤ x.0.at)
Counted g s q v d c w o (Err r) o₁ = Takes g s (sub q) 0 v d c w o (Err r) o₁

-- The same of a list, which tells how many trees it adds: each takes a byte at least. It may owe v bytes.
pub record Counts (g : ℕ) (s : List ℕ) (q : Phrase) (v d : ℕ) (c : Cursor) (w : ℕ) (o : List ℕ) (a : Answer) (o₁ : List ℕ) : Type 0 where
  pub counts : Counted g s q v d c w o a o₁

unfoldable pub Told : ℕ → List ℕ → ℕ → State → (ℕ → Body) → ℕ → Answer → List ℕ → Type 0
Told g s d from next n (Ok x) o = Seg g s d from 0 0 (state (next x.2) n x.0 x.1 o) × (x.2 ≤ 4)
Told g s d from next n (Err r) o = Breaks g s d from r

-- An answer that tells what the phrase goes on with.
pub record Tells (g : ℕ) (s : List ℕ) (d : ℕ) (from : State) (next : ℕ → Body) (n : ℕ) (a : Answer) (o : List ℕ) : Type 0 where
  pub tells : Told g s d from next n a o

pub record TellsSome (g : ℕ) (s : List ℕ) (d : ℕ) (from : State) (next : ℕ → Body) (n : ℕ) (a : Answer) (o : List ℕ) : Type 0 where
  pub tells : Tells g s d from next n a o
  pub some : Onward from.cursor a

-- Answers of functions that neither setting nor depth concerns; and of those that the number of trees does not concern.
pub record Ends (s : List ℕ) (from : State) (v : ℕ) (b : Body) (n : ℕ) (a : Answer) (o : List ℕ) : Type 0 where
  pub ends : (g d : ℕ) → Leads g s d from v b n a o

pub record EndsAny (s : List ℕ) (b : Body) (c : Cursor) (w : ℕ) (o : List ℕ) (v : ℕ) (b₁ : Body) (n₁ : ℕ) (a : Answer) (o₁ : List ℕ) : Type 0 where
  pub ends : (g d n : ℕ) → Leads g s d (state b n c w o) v b₁ n₁ a o₁

-- Where the function sees no source.
pub record EndsOver (b : Body) (c : Cursor) (w : ℕ) (o : List ℕ) (v : ℕ) (b₁ : Body) (n₁ : ℕ) (a : Answer) (o₁ : List ℕ) : Type 0 where
  pub ends : (s : List ℕ) → EndsAny s b c w o v b₁ n₁ a o₁

pub record EndsUnder (g : ℕ) (s : List ℕ) (from : State) (v : ℕ) (b : Body) (n : ℕ) (a : Answer) (o : List ℕ) : Type 0 where
  pub ends : (d : ℕ) → Leads g s d from v b n a o

pub record LeadsAny (g : ℕ) (s : List ℕ) (d : ℕ) (b : Body) (c : Cursor) (w : ℕ) (o : List ℕ) (v : ℕ) (b₁ : Body) (n₁ : ℕ) (a : Answer) (o₁ : List ℕ) : Type 0 where
  pub leads : (n : ℕ) → Leads g s d (state b n c w o) v b₁ n₁ a o₁

pub record TellsEver (s : List ℕ) (from : State) (next : ℕ → Body) (n : ℕ) (a : Answer) (o : List ℕ) : Type 0 where
  pub tells : (g d : ℕ) → Tells g s d from next n a o

pub record TellsEverAny (s : List ℕ) (b : Body) (c : Cursor) (w : ℕ) (o : List ℕ) (next : ℕ → Body) (n₁ : ℕ) (a : Answer) (o₁ : List ℕ) : Type 0 where
  pub tells : (g d n : ℕ) → Tells g s d (state b n c w o) next n₁ a o₁

pub record TellsAny (g : ℕ) (s : List ℕ) (d : ℕ) (b : Body) (c : Cursor) (w : ℕ) (o : List ℕ) (next : ℕ → Body) (n₁ : ℕ) (a : Answer) (o₁ : List ℕ) : Type 0 where
  pub tells : (n : ℕ) → Tells g s d (state b n c w o) next n₁ a o₁

-- One argument more, whatever stood before it: m of those are named, and this one is if k is 1.
pub record Argues (g : ℕ) (s : List ℕ) (d m k : ℕ) (c : Cursor) (w : ℕ) (o : List ℕ) (a : Answer) (o₁ : List ℕ) : Type 0 where
  pub argues : (from u n : ℕ) → Leads g s d (state (goto (argument from u m)) n c w o) 0 (goto (argument_end from (u + (1 - k)) (m + k))) (n + 1) a o₁

-- What `eat` promises.
pub record Eats (s : List ℕ) (k : ℕ) (c : Cursor) (w : ℕ) (a : Answer) : Type 0 where
  pub eats : (g d : ℕ) (o : List ℕ) → Takes g s (eat k) 0 0 d c w o a o
  pub moved : (c₁ : Cursor) (w₁ n : ℕ) → a ≡ reached c₁ w₁ n → (c.at < c₁.at) × (w₁ ≡ w) × (c₁.at ≡ c.end)

-- ── Bodies that more than one function goes on with ───────────────────────────────────────────────

-- An array, and one of its clauses, from `]` on.
abbrev pub bracketed : ℕ → ℕ → Body
bracketed t n = eat R_BRACK ▸ close t (number n ∷ []) ▸ end

-- A bind from its `=` on.
abbrev pub bound : ℕ → ℕ → Body
bound f n = eat ASSIGN ▸ expression ▸ close BIND (byte f ∷ number n ∷ []) ▸ end

-- A slice from its `]` on; what comes after `?`.
abbrev pub sliced : ℕ → Field → Field → Field → Body
sliced b x y z = eat R_BRACK ▸ close SLICE (byte b ∷ x ∷ y ∷ z ∷ []) ▸ goto (suffix 1)

abbrev pub safely : ℕ → Body
safely f = eat DOT ▸ goto (null_safe f)
