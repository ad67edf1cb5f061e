-- Two settings, one within the other: what demand 3 compares, and the place that 01 names ("Demand 3's place"). And a source in which 8
-- decides nothing.
-- Assumes nothing.
use Rattle.std.specs.Prelude.{◌≡◌, true, false, ◌&&◌, List, ℕ}
use Rattle.std.proofs.Math.Option.{Option, some, none as nowhere}
use Rattle.grammar.specs.Trees.{Trees, count}
use Rattle.grammar.specs.Lexemes.{Lexeme, rest, kind_of, stop_of}
use Rattle.grammar.specs.Productions.{Phrase, expr, Body, Switch, always, exp_destruct, exp_object_iteration, exp_null_coaelse, row, Table, otherwise, ◌∣◌, rule}
use Rattle.grammar.specs.Reading.{has, published, view, Outcome, Reading, ended, failed, gone, eaten, uneaten, leafed, closed, subbed, unsubbed, deepened, undeepened, too_deep}
use Rattle.grammar.specs.Answer.{Limits, Verdict, Judged, bad_setting, too_long, not_utf8, bad_lexeme, read}
use Rattle.grammar.specs.Spells.{Unary}

infix 25 ◌⊑◌
-- R29. Every switch of s is on in s'; and "Demand 3 compares settings equal in bit 8".
pub record ◌⊑◌ (s s' : ℕ) : Type 0 where
  pub switches : (g : Switch) → has s g ≡ true → has s' g ≡ true
  pub signs : published s ≡ published s'

-- R29. The switch of the production that is chosen.
unfoldable pub switch_of : ℕ → Table → Switch
switch_of s (otherwise b) = always
switch_of s (row g t b ∣ rest) = elim (t && has s g) [ true ↦ g | false ↦ switch_of s rest ]

-- R29. A place in the lexemes: where the last one ended, and what is left.
pub data Place : Type 0 where
  at : ℕ → List Lexeme → Place

-- R29. The place of a phrase that needs a switch which s lacks: "the first `?`, `??`, or opening lexeme of a pattern or `[k]:` header", so where
-- the phrase begins. "One exception: for a `[k]:` header where the smaller has 1 and not 2, it is the first `:` after `]`."
unfoldable pub place : ℕ → Switch → ℕ → List Lexeme → Place
place s always p xs = at p xs
place s exp_destruct p xs = at p xs
place s exp_null_coaelse p xs = at p xs
place s exp_object_iteration p xs =
    elim (has s exp_destruct) [ true ↦ at (stop_of (stop_of (stop_of p xs) (rest xs)) (rest (rest xs))) (rest (rest (rest xs))) | false ↦ at p xs ]

unfoldable pub or_else : Option Place → Option Place → Option Place
or_else (some k) o = some k
or_else nowhere o = o

module _ (prefix s s' : ℕ) where
  -- R29. In a phrase: here, if s lacks the switch of what s' chooses; else the first place in what is chosen.
  unfoldable pub first_in : Phrase → ℕ → List Lexeme → ℕ → Option Place → Option Place
  first_in q p xs n o = let g = switch_of s' (rule prefix q (view p xs n)) in elim (has s g) [ true ↦ o | false ↦ some (place s g p xs) ]

  -- R29. "the first .. that the larger setting reads by a switch the smaller lacks", in a reading under s'.
  unfoldable pub first : {b : Body} {ts : Trees} {d p : ℕ} {xs : List Lexeme} {o : Outcome} → Reading prefix s' b ts d p xs o → Option Place
  first ended = nowhere
  first failed = nowhere
  first (gone {q} {ts} {d} {p} {xs} r) = first_in q p xs (count ts) (first r)
  first (eaten e r) = first r
  first (uneaten n) = nowhere
  first (leafed r) = first r
  first (closed r) = first r
  first (subbed {q} {p = p} {xs = xs} r r') = or_else (first_in q p xs 0 (first r)) (first r')
  first (unsubbed {q} {p = p} {xs = xs} r) = first_in q p xs 0 (first r)
  first (deepened {q} {p = p} {xs = xs} r r') = or_else (first_in q p xs 0 (first r)) (first r')
  first (undeepened {q} {p = p} {xs = xs} r) = first_in q p xs 0 (first r)
  first too_deep = nowhere

-- ── Prefix signs ──────────────────────────────────────────────────────────────────────────────────

-- R19. A phrase begins with a prefix sign: an expression, where `+`, `-`, `~` or `!` stands next.
pub data Signed : Phrase → List Lexeme → Type 0 where
  signed : {least o : ℕ} {xs : List Lexeme} → Unary (kind_of xs) o → Signed (expr least) xs

module _ {prefix s : ℕ} where
  -- R19. No phrase of a reading begins with one.
  unfoldable pub Unsigned : {b : Body} {ts : Trees} {d p : ℕ} {xs : List Lexeme} {o : Outcome} → Reading prefix s b ts d p xs o → Type 0
  Unsigned ended = Unit
  Unsigned failed = Unit
  Unsigned (gone {q} {xs = xs} r) = (¬ Signed q xs) × Unsigned r
  Unsigned (eaten e r) = Unsigned r
  Unsigned (uneaten n) = Unit
  Unsigned (leafed r) = Unsigned r
  Unsigned (closed r) = Unsigned r
  Unsigned (subbed {q} {xs = xs} r r') = (¬ Signed q xs) × Unsigned r × Unsigned r'
  Unsigned (unsubbed {q} {xs = xs} r) = (¬ Signed q xs) × Unsigned r
  Unsigned (deepened {q} {xs = xs} r r') = (¬ Signed q xs) × Unsigned r × Unsigned r'
  Unsigned (undeepened {q} {xs = xs} r) = (¬ Signed q xs) × Unsigned r
  Unsigned too_deep = Unit

-- "A source with no prefix sign": its reading has none, if it comes to one.
module _ {Bad : List ℕ → ℕ → ℕ → ℕ → Type 0} {Kept : List ℕ → List Lexeme → Type 0} {limits : Limits} {s : ℕ} {source : List ℕ} where
  unfoldable pub NoPrefixSign : {v : Verdict} → Judged Bad Kept limits s source v → Type 0
  NoPrefixSign (bad_setting a) = Unit
  NoPrefixSign (too_long a b) = Unit
  NoPrefixSign (not_utf8 a b c d) = Unit
  NoPrefixSign (bad_lexeme a b c d) = Unit
  NoPrefixSign (read a b c d r) = Unsigned r
