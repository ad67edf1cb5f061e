-- NO SECOND ANSWER, NO SECOND ARRAY: what `ReadsBack` (specs/Images.antt) allows of an image and an array's length is one answer and one array.
-- Where records are trees side by side, so are all but the last of them (`Undone`); so two rows of trees over the same bytes with as many
-- records are the same row, and of two rows the shorter has one record more. No answer is given where there is one.
-- Assumes nothing.
use mathlib.Core.Path.{◌≡◌, refl, sym, ap, subst, ◌∙◌}
use mathlib.Core.Bool.{Bool, true, false}
use mathlib.Core.List.{List, [], ◌∷◌, ◌++◌, append_assoc, append-nil}
use Prim.Native.Nat.{ℕ, zero, suc, ◌+◌, ◌-◌, ◌*◌, ◌≤◌, ◌<◌}
use native.Mathlib.Omega.{arith}
use lib.Dec.{ltb}
use lib.ListN.{length, replicate, length-append}
use borrow.Author.Tests.{ltb-true, ltb-false}
use Rattle.grammar.specs.Trees.{Field, Trees, tree, ◌⊕◌, count}
use Rattle.grammar.specs.Trees as trees
use Rattle.grammar.specs.Image.{entry, image}
use Rattle.grammar.specs.Records.{Sort, Spans, Obeys}
use Rattle.grammar.specs.Layout.{Layout, layout_of, Tells, tells}
use Rattle.grammar.specs.Answer.{prefix_power}
use Rattle.grammar.specs.Derived.{Derived}
use Rattle.grammar.proofs.ImageLaws.{count-row, entry_length}
use Rattle.grammar.proofs.LayoutLaws.{form_laid}
use Rattle.grammar.proofs.Obeys.{obeys_length}
use Rattle.grammar.proofs.Derived.{whole_exactly}
use Rattle.images.specs.declared.Fault.TheVariants.{Unknown, Malformed, Children, Underived}
use Rattle.std.proofs.Common.{Ok, Err}
use Rattle.images.specs.Images.{Answer, Age, dated, dated_trees, Accepted, Row, Before, Stands, More, Refused, records, links, ReadsBack}
use Rattle.images.proofs.EntryLaws.{entry_there}
use Rattle.images.proofs.RowLaws.{records-row, image_more, row_less}
use Rattle.images.proofs.Determined.{stands_once, more_stands, more_once, grown, dated_once}

-- ── Without the last record ───────────────────────────────────────────────────────────────────────

-- A row that is not empty ends with a tree.
record Ending (ts : Trees) : Type 0 where
  pub us : Trees
  pub tag : ℕ
  pub fields : List Field
  pub children : Trees
  pub whole : ts ≡ us ⊕ tree tag fields children

ending : (tag : ℕ) (fields : List Field) (children ts : Trees) → Ending (trees.node tag fields children ts)
unfolding ◌⊕◌
ending tag fields children trees.none = record { us = trees.none; tag = tag; fields = fields; children = children; whole = refl }
ending tag fields children (trees.node t f c ts) =
    let x = ending t f c ts in
    record { us = trees.node tag fields children x.us; tag = x.tag; fields = x.fields; children = x.children; whole = ap (trees.node tag fields children) x.whole }

some-tree : (ts : Trees) (n : ℕ) → records ts ≡ suc n → Ending ts
unfolding records
some-tree trees.none n e = absurd (omega arith)
some-tree (trees.node tag fields children ts) n e = ending tag fields children ts

-- The row before the last of n + 1 records, and that record as one more.
record Undone (bytes : List ℕ) (ts : Trees) (rest : List ℕ) (n : ℕ) : Type 0 where
  pub before_ts : Trees
  pub before-rest : List ℕ
  pub before : Before bytes before_ts before-rest
  pub number : records before_ts ≡ n
  pub more : More before_ts before-rest
  pub again : (ts ≡ grown more) × (rest ≡ more.after)

undone : {bytes rest : List ℕ} {ts : Trees} (n : ℕ) → Before bytes ts rest → records ts ≡ suc n → Undone bytes ts rest n
unfolding records
undone {bytes} {rest} {ts} n b e =
    let x = some-tree ts n e in
    let t = tree x.tag x.fields x.children in
    let row = subst (λ (u : Trees). Row b.age u) x.whole b.row in
    let im = ap image x.whole ∙ image_more x.us x.children x.tag x.fields in
    record {
      before_ts = x.us ⊕ x.children;
      before-rest = entry x.tag x.fields ++ rest;
      before = record {
        age = b.age;
        row = (row_less b.age x.us x.children x.tag x.fields row).1;
        split = b.split ∙ ap (λ (l : List ℕ). l ++ rest) im ∙ append_assoc (image (x.us ⊕ x.children)) (entry x.tag x.fields) rest;
      };
      number = omega (arith, e, ap records x.whole, records-row x.us t, records-row x.us x.children);
      more = record { age = b.age; tag = x.tag; fields = x.fields; us = x.us; children = x.children; after = rest; roots = refl; here = refl; row = row };
      again = (x.whole, refl);
    }

-- ── Rows over the same bytes ──────────────────────────────────────────────────────────────────────

no_records : (ts : Trees) → records ts ≡ 0 → ts ≡ trees.none
unfolding records
no_records trees.none e = refl
no_records (trees.node tag fields children ts) e = absurd (omega arith)

all_left : {bytes rest : List ℕ} {ts : Trees} → Before bytes ts rest → records ts ≡ 0 → bytes ≡ rest
unfolding image
all_left {rest = rest} {ts} b e = b.split ∙ ap (λ (t : Trees). image t ++ rest) (no_records ts e)

more_same : {ts us : Trees} {rest rest' : List ℕ} (x : More ts rest) (y : More us rest') → ts ≡ us → rest ≡ rest' → (grown x ≡ grown y) × (x.after ≡ y.after)
more_same {ts} {us} {rest} {rest'} x y e q = by us rest' e q y
  where
    by : (vs : Trees) (r : List ℕ) → ts ≡ vs → rest ≡ r → (z : More vs r) → (grown x ≡ grown z) × (x.after ≡ z.after)
    by vs r e q = subst (λ (u : Trees). (z : More u r) → (grown x ≡ grown z) × (x.after ≡ z.after)) e
        (subst (λ (l : List ℕ). (z : More ts l) → (grown x ≡ grown z) × (x.after ≡ z.after)) q (λ z. more_once x z))

-- With as many records they are the same row.
same_row : {bytes rest rest' : List ℕ} {ts us : Trees} (n : ℕ) → Before bytes ts rest → Before bytes us rest' → records ts ≡ n → records us ≡ n → (ts ≡ us) × (rest ≡ rest')
same_row {ts = ts} {us} zero b c e q = (no_records ts e ∙ sym (no_records us q), sym (all_left b e) ∙ all_left c q)
same_row {bytes = bytes} {rest = rest} {rest' = rest'} {ts = ts} {us = us} (suc n) b c e q =
    let x = undone n b e in
    let y = undone n c q in
    let before = same_row {bytes = bytes} {rest = x.before-rest} {rest' = y.before-rest} {ts = x.before_ts} {us = y.before_ts} n x.before y.before x.number y.number in
    let now = more_same x.more y.more before.0 before.1 in
    (x.again.0 ∙ now.0 ∙ sym y.again.0, x.again.1 ∙ now.1 ∙ sym y.again.1)

-- A row has passed through every number of records below its own.
record Passed (bytes : List ℕ) (n : ℕ) : Type 0 where
  pub ts : Trees
  pub rest : List ℕ
  pub before : Before bytes ts rest
  pub number : records ts ≡ n
  pub more : More ts rest

passed : {bytes rest : List ℕ} {ts : Trees} (n k : ℕ) → Before bytes ts rest → records ts ≡ suc k + n → Passed bytes n
passed n zero b e =
    let x = undone n b (omega arith) in
    record { ts = x.before_ts; rest = x.before-rest; before = x.before; number = x.number; more = x.more }
passed {bytes = bytes} {rest = rest} {ts = ts} n (suc k) b e =
    let x = undone (suc k + n) b (omega arith) in passed {bytes = bytes} {rest = x.before-rest} {ts = x.before_ts} n k x.before x.number

-- The longer of two rows goes on where the shorter ends.
goes_on : {bytes rest rest' : List ℕ} {ts us : Trees} → Before bytes ts rest → Before bytes us rest' → records ts < records us → More ts rest
goes_on {rest = rest} {ts = ts} {us} b c h =
    let x = passed (records ts) (records us - suc (records ts)) c (omega arith) in
    let e = same_row (records ts) x.before b x.number refl in
    subst (λ (r : List ℕ). More ts r) e.1 (subst (λ (t : Trees). More t x.rest) e.0 x.more)

-- THE END OF THE WALK IS ONE: rows that no record follows are the same.
pub end_once : {bytes rest rest' : List ℕ} {ts us : Trees} → Before bytes ts rest → (More ts rest → ⊥) → Before bytes us rest' → (More us rest' → ⊥) → (ts ≡ us) × (rest ≡ rest')
end_once {rest = rest} {rest'} {ts} {us} b stop c halt = by (ltb (records ts) (records us)) refl (ltb (records us) (records ts)) refl
  where
    by : (p : Bool) → ltb (records ts) (records us) ≡ p → (q : Bool) → ltb (records us) (records ts) ≡ q → (ts ≡ us) × (rest ≡ rest')
    by true e q f = absurd (stop (goes_on b c (ltb-true (records ts) (records us) e)))
    by false e true f = absurd (halt (goes_on c b (ltb-true (records us) (records ts) f)))
    by false e false f = same_row (records us) b c (omega (arith, ltb-false (records ts) (records us) e, ltb-false (records us) (records ts) f)) refl

-- ── What is said there ────────────────────────────────────────────────────────────────────────────

-- Nothing stands at the end.
nothing_stands : {ts : Trees} {tag n : ℕ} → Stands ts [] tag n → ⊥
nothing_stands {tag = tag} x = omega (arith, ap length x.here, length-append (entry tag x.fields) x.after, entry_length tag x.fields)

no_more : {ts : Trees} → More ts [] → ⊥
no_more x = nothing_stands (more_stands x)

-- What stands somewhere has a known tag, which is the byte there.
abbrev of_record : Layout → ℕ
of_record (Layout.layout own parts) = 1
of_record Layout.unknown = 0

told_known : {l : Layout} {fs : List Field} {n : ℕ} → Tells l fs n → l ≡ Layout.unknown → ⊥
told_known (tells k) e = omega (arith, ap of_record e)

module _ {ts : Trees} {first : ℕ} {rest : List ℕ} {tag n : ℕ} (x : Stands ts (first ∷ rest) tag n) where
  tag_there : tag ≡ first
  tag_there = (entry_there (first ∷ rest) 0 tag x.fields x.after (omega arith) x.here).tagged

  known_there : layout_of first ≡ Layout.unknown → ⊥
  known_there e = told_known x.told (ap layout_of tag_there ∙ e)

  stands_there : Stands ts (first ∷ rest) first n
  stands_there = subst (λ (t : ℕ). Stands ts (first ∷ rest) t n) tag_there x

-- A row of which every record is of an age has the same fields of whichever age it is so.
dated_same : (g h : Age) (ts : Trees) {σs τs : List Sort} → Obeys Spans.forward σs (dated_trees g ts) → Obeys Spans.forward τs (dated_trees h ts) → dated_trees g ts ≡ dated_trees h ts
unfolding dated_trees
dated_same g h trees.none o p = refl
dated_same g h (trees.node tag fields children ts) (Obeys.node f fits o p) (Obeys.node f' fits' o' p') =
    ap (λ (fs : List Field). trees.node tag fs (dated_trees g children) (dated_trees g ts)) (dated_once g h tag fields (form_laid f) (form_laid f'))
    ∙ ap (λ (cs : Trees). trees.node tag (dated h tag fields) cs (dated_trees g ts)) (dated_same g h children o o')
    ∙ ap (trees.node tag (dated h tag fields) (dated_trees h children)) (dated_same g h ts p p')

-- The answer, by the row at the end of the walk and what is left.
data Said (bytes : List ℕ) : Trees → List ℕ → Answer → Type 0 where
  unknown : {ts : Trees} {tag : ℕ} {rest : List ℕ} → layout_of tag ≡ Layout.unknown → Said bytes ts (tag ∷ rest) (Err (Unknown (length (image ts))))
  malformed : {ts : Trees} {tag : ℕ} {rest : List ℕ} → (layout_of tag ≡ Layout.unknown → ⊥) → ((n : ℕ) → Stands ts (tag ∷ rest) tag n → ⊥)
      → Said bytes ts (tag ∷ rest) (Err (Malformed (length (image ts))))
  missing : {ts : Trees} {first : ℕ} {rest : List ℕ} {tag n : ℕ} → Stands ts (first ∷ rest) tag n → count ts < n → Said bytes ts (first ∷ rest) (Err (Children (length (image ts))))
  underived : {ts : Trees} {first : ℕ} {rest : List ℕ} {tag n : ℕ} → Stands ts (first ∷ rest) tag n → n ≤ count ts → Said bytes ts (first ∷ rest) (Err (Underived (length (image ts))))
  left_over : {ts : Trees} → (count ts ≡ 1 → ⊥) → Said bytes ts [] (Err (Children (length bytes)))
  lone_root : {tag : ℕ} {fields : List Field} {children : Trees} {age : Age} → Row age (tree tag fields children)
      → (Derived (prefix_power 7) 7 (dated_trees age (tree tag fields children)) → ⊥) → Said bytes (tree tag fields children) [] (Err (Underived (length (image children))))
  accepted : {t : Trees} {age : Age} → Row age t → Derived (prefix_power 7) 7 (dated_trees age t) → count t ≡ 1 → Said bytes t [] (Ok (records t))

derived_as : {g h : Age} {t : Trees} → Row g t → Row h t → Derived (prefix_power 7) 7 (dated_trees g t) → Derived (prefix_power 7) 7 (dated_trees h t)
derived_as {g} {h} {t} r q d = subst (λ (u : Trees). Derived (prefix_power 7) 7 u) (dated_same g h t r.obeys q.obeys) d

-- One answer there.
said_once : {bytes rest : List ℕ} {ts : Trees} {a b : Answer} → Said bytes ts rest a → Said bytes ts rest b → a ≡ b
unfolding count
said_once (Said.unknown e) (Said.unknown f) = refl
said_once (Said.unknown e) (Said.malformed k n) = absurd (k e)
said_once (Said.unknown e) (Said.missing x h) = absurd (known_there x e)
said_once (Said.unknown e) (Said.underived x h) = absurd (known_there x e)
said_once (Said.malformed k n) (Said.unknown e) = absurd (k e)
said_once (Said.malformed k n) (Said.malformed l m) = refl
said_once (Said.malformed k n) (Said.missing x h) = absurd (n _ (stands_there x))
said_once (Said.malformed k n) (Said.underived x h) = absurd (n _ (stands_there x))
said_once (Said.missing x h) (Said.unknown e) = absurd (known_there x e)
said_once (Said.missing x h) (Said.malformed k n) = absurd (n _ (stands_there x))
said_once (Said.missing x h) (Said.missing y g) = refl
said_once (Said.missing x h) (Said.underived y g) = absurd (omega (arith, (stands_once x y).children))
said_once (Said.underived x h) (Said.unknown e) = absurd (known_there x e)
said_once (Said.underived x h) (Said.malformed k n) = absurd (n _ (stands_there x))
said_once (Said.underived x h) (Said.missing y g) = absurd (omega (arith, (stands_once x y).children))
said_once (Said.underived x h) (Said.underived y g) = refl
said_once (Said.left_over n) (Said.left_over m) = refl
said_once (Said.left_over n) (Said.lone_root r m) = absurd (n refl)
said_once (Said.left_over n) (Said.accepted r d one) = absurd (n one)
said_once (Said.lone_root r m) (Said.left_over n) = absurd (n refl)
said_once (Said.lone_root r m) (Said.lone_root q n) = refl
said_once (Said.lone_root r m) (Said.accepted q d one) = absurd (m (derived_as q r d))
said_once (Said.accepted r d one) (Said.left_over n) = absurd (n one)
said_once (Said.accepted r d one) (Said.lone_root q m) = absurd (m (derived_as r q d))
said_once (Said.accepted r d one) (Said.accepted q c two) = refl

-- ── What the definitions say ──────────────────────────────────────────────────────────────────────

-- The row at which an answer is given: no record follows it.
record Ended (bytes : List ℕ) (a : Answer) : Type 0 where
  pub ts : Trees
  pub rest : List ℕ
  pub before : Before bytes ts rest
  pub over : More ts rest → ⊥
  pub said : Said bytes ts rest a

-- the children that a record tells of stand there
enough : {ts : Trees} {rest : List ℕ} {tag n : ℕ} → Stands ts rest tag n → (x : More ts rest) → n ≤ count ts
enough s x = omega (arith, (stands_once s (more_stands x)).children, ap count x.roots, count-row x.us x.children)

refused_ended : {bytes : List ℕ} {a : Answer} → Refused bytes a → Ended bytes a
refused_ended (Refused.unknown b e) = record { ts = _; rest = _; before = b; over = λ x. known_there (more_stands x) e; said = Said.unknown e }
refused_ended (Refused.malformed b k n) = record { ts = _; rest = _; before = b; over = λ x. n _ (stands_there (more_stands x)); said = Said.malformed k n }
refused_ended {bytes} (Refused.missing {ts} {rest} {tag} {n} b s h) = by rest b s
  where
    by : (r : List ℕ) → Before bytes ts r → Stands ts r tag n → Ended bytes (Err (Children (length (image ts))))
    by [] b s = absurd (nothing_stands s)
    by (first ∷ r) b s = record { ts = ts; rest = first ∷ r; before = b; over = λ x. omega (arith, enough s x); said = Said.missing s h }
refused_ended {bytes} (Refused.underived {ts} {rest} {tag} {n} b s h never) = by rest b s never
  where
    by : (r : List ℕ) → Before bytes ts r → Stands ts r tag n → (More ts r → ⊥) → Ended bytes (Err (Underived (length (image ts))))
    by [] b s never = absurd (nothing_stands s)
    by (first ∷ r) b s never = record { ts = ts; rest = first ∷ r; before = b; over = never; said = Said.underived s h }
refused_ended (Refused.left_over b n) = record { ts = _; rest = []; before = b; over = no_more; said = Said.left_over n }
refused_ended (Refused.lone_root b n) = record { ts = _; rest = []; before = b; over = no_more; said = Said.lone_root b.row n }

dated-count : (age : Age) (ts : Trees) → count (dated_trees age ts) ≡ count ts
unfolding dated_trees count
dated-count age trees.none = refl
dated-count age (trees.node tag fields children ts) = ap suc (dated-count age ts)

-- An accepted image's tree is one that obeys the table.
module _ {bytes : List ℕ} {t : Trees} (a : Accepted bytes t) where
  pub accepted_row : Row a.age t
  accepted_row = let w = (whole_exactly (prefix_power 7) (dated_trees a.age t)).1 (a.derived, a.spanned) in record { sorts = w.0 ∷ []; obeys = w.2 }

  accepted_ended : Ended bytes (Ok (records t))
  unfolding accepted_row
  accepted_ended =
      let one : count t ≡ 1 = sym (dated-count a.age t) ∙ sym (obeys_length accepted_row.obeys) in
      record {
        ts = t;
        rest = [];
        before = record { age = a.age; row = accepted_row; split = a.written ∙ sym (append-nil (image t)) };
        over = no_more;
        said = Said.accepted accepted_row a.derived one;
      }

ended_once : {bytes : List ℕ} {a b : Answer} → Ended bytes a → Ended bytes b → a ≡ b
ended_once {bytes} {b = b} x y =
    let e = end_once y.before y.over x.before x.over in
    said_once x.said (subst (λ (r : List ℕ). Said bytes x.ts r b) e.1 (subst (λ (t : Trees). Said bytes t y.rest b) e.0 y.said))

-- ── The theorems ──────────────────────────────────────────────────────────────────────────────────

-- ONE TREE: an image is accepted as one tree at most.
pub one_tree : {bytes : List ℕ} {t u : Trees} → Accepted bytes t → Accepted bytes u → t ≡ u
unfolding accepted_ended
one_tree x y = let a = accepted_ended x in let b = accepted_ended y in (end_once a.before a.over b.before b.over).0

-- ONE REFUSAL, one offset.
pub one_refusal : {bytes : List ℕ} {a b : Answer} → Refused bytes a → Refused bytes b → a ≡ b
one_refusal x y = ended_once (refused_ended x) (refused_ended y)

-- NEVER BOTH.
abbrev pub is_tree : Answer → ℕ
is_tree (Ok n) = 1
is_tree (Err f) = 0

pub no_tree : {bytes : List ℕ} {a : Answer} → Refused bytes a → is_tree a ≡ 0
no_tree (Refused.unknown b e) = refl
no_tree (Refused.malformed b k n) = refl
no_tree (Refused.missing b s h) = refl
no_tree (Refused.underived b s h n) = refl
no_tree (Refused.left_over b n) = refl
no_tree (Refused.lone_root b n) = refl

pub accepted_not_refused : {bytes : List ℕ} {t : Trees} {a : Answer} → Accepted bytes t → Refused bytes a → ⊥
accepted_not_refused x y = omega (arith, no_tree y, ap is_tree (ended_once (accepted_ended x) (refused_ended y)))

-- NO SECOND ANSWER, NO SECOND ARRAY.
pub reads_back_once : {bytes : List ℕ} {room : ℕ} {a b : Answer} {l m : List ℕ} → ReadsBack bytes room a l → ReadsBack bytes room b m → (a ≡ b) × (l ≡ m)
reads_back_once (ReadsBack.short h) (ReadsBack.short g) = (refl, refl)
reads_back_once (ReadsBack.short h) (ReadsBack.accepted g y) = absurd (omega arith)
reads_back_once (ReadsBack.short h) (ReadsBack.refused g y) = absurd (omega arith)
reads_back_once (ReadsBack.accepted h x) (ReadsBack.short g) = absurd (omega arith)
reads_back_once {room = room} (ReadsBack.accepted h x) (ReadsBack.accepted g y) =
    let e = one_tree x y in (ap (λ (t : Trees). Ok (records t)) e, ap (λ (t : Trees). links 0 0 t ++ replicate (room - 2 * records t) 0) e)
reads_back_once (ReadsBack.accepted h x) (ReadsBack.refused g y) = absurd (accepted_not_refused x y)
reads_back_once (ReadsBack.refused h x) (ReadsBack.short g) = absurd (omega arith)
reads_back_once (ReadsBack.refused h x) (ReadsBack.accepted g y) = absurd (accepted_not_refused y x)
reads_back_once (ReadsBack.refused h x) (ReadsBack.refused g y) = (one_refusal x y, refl)
