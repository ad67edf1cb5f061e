-- Trees that are what is wanted, but for spans: `Are`, and how such rows are put together.
-- Assumes nothing.
use mathlib.Core.Path.{◌≡◌, sym, ◌∙◌}
use mathlib.Core.List.{List, [], ◌∷◌, ◌++◌}
use Prim.Native.Nat.{ℕ, suc}
use lib.ListN.{length}
use Rattle.strings.specs.Utf8.{Utf8}
use Rattle.grammar.specs.Tags.{STRING}
use Rattle.grammar.specs.Trees.{Field, text, Trees, tree, ◌⊕◌, count}
use Rattle.grammar.specs.Trees as trees
use Rattle.grammar.specs.Records.{Sort, Fits, times, Spans, Has, First, Form, Obeys}
use Rattle.grammar.proofs.Obeys.{obeys_length, obeys_append}
use Rattle.grammar.proofs.Sorts.{one, fits_append, fits-length, fits_last, fits_nil, fits-times, times-length, as_expression}
use Rattle.grammar.proofs.Sorts.{object-expression, first_fits}

-- In this order they are of the wanted sorts, and obey the table but for spans.
pub data Are (ws : List Sort) (ts : Trees) : Type 0 where
  are : {σs : List Sort} → Fits σs ws → Obeys Spans.free σs ts → Are ws ts

abbrev pub Is-a : Sort → Trees → Type 0
Is-a σ t = Are (σ ∷ []) t

pub are_length : {ws : List Sort} {ts : Trees} → Are ws ts → length ws ≡ count ts
are_length (are f o) = sym (fits-length f) ∙ obeys_length o

pub are_append : {ws us : List Sort} {ts vs : Trees} → Are ws ts → Are us vs → Are (ws ++ us) (ts ⊕ vs)
are_append (are f o) (are g p) = are (fits_append f g) (obeys_append o p)

pub are_nil : {ws : List Sort} {ts : Trees} → Are ws ts → Are (ws ++ []) ts
are_nil (are f o) = are (fits_nil f) o

pub are_as : {ws us : List Sort} {ts : Trees} → ((σs : List Sort) → Fits σs ws → Fits σs us) → Are ws ts → Are us ts
are_as h (are {σs} f o) = are (h σs f) o

pub no_trees : Are [] trees.none
no_trees = are Fits.none Obeys.none

-- A record over what it wants.
pub a_record : {σ : Sort} {tag : ℕ} {fs : List Field} {ws : List Sort} {cs : Trees} → Form Spans.free σ tag fs ws → Are ws cs → Is-a σ (tree tag fs cs)
a_record r (are f o) = are one (Obeys.node r f o Obeys.none)

pub a_string : {w : List ℕ} → Utf8 w → Is-a Sort.string (tree STRING (text w ∷ []) trees.none)
a_string u = a_record (Form.r5 u) no_trees

pub string_expression : {t : Trees} → Is-a Sort.string t → Is-a Sort.expression t
string_expression a = are_as (λ σs f. as_expression f) a

pub object_is_expression : {t : Trees} → Is-a Sort.object t → Is-a Sort.expression t
object_is_expression a = are_as (λ σs f. object-expression f) a

pub first-expression : {f : ℕ} {σ : Sort} {t : Trees} → First f σ → Is-a σ t → Is-a Sort.expression t
first-expression h a = are_as (λ σs f. first_fits h f) a

-- ── Rows and optional parts ───────────────────────────────────────────────────────────────────────

-- Each of a row is a P; there is a P or there is none, as a flag tells.
pub data Each (P : Trees → Type 0) : Trees → Type 0 where
  no_more : Each P trees.none
  one_more : {ts t : Trees} → Each P ts → P t → Each P (ts ⊕ t)

pub data Optional (P : Trees → Type 0) : ℕ → Trees → Type 0 where
  not_there : Optional P 0 trees.none
  there : {t : Trees} → P t → Optional P 1 t

pub one_more_last : (n : ℕ) (σ : Sort) (ws : List Sort) {ts t : Trees} → Are (ws ++ times n σ) ts → Is-a σ t → Are (ws ++ times (suc n) σ) (ts ⊕ t)
one_more_last n σ ws (are f o) (are g p) = are (fits_last n σ ws f g) (obeys_append o p)

some : (σ : Sort) {ts : Trees} → Each (Is-a σ) ts → (n : ℕ) × Are (times n σ) ts
unfolding times
some σ no_more = (0, no_trees)
some σ (one_more e a) = let h = some σ e in (suc h.0, one_more_last h.0 σ [] h.1 a)

-- As many of a sort as there are.
pub all : (σ : Sort) {ts : Trees} → Each (Is-a σ) ts → Are (times (count ts) σ) ts
all σ {ts} e = let h = some σ e in are_as (λ σs f. fits-times σ h.0 (count ts) (sym (times-length h.0 σ) ∙ are_length h.1) f) h.1

pub has : {σ : Sort} {d : ℕ} {t : Trees} → Optional (Is-a σ) d t → (ws : List Sort) × Has σ d ws × Are ws t
has not_there = ([], Has.no, no_trees)
has (there a) = (_, Has.yes, a)
