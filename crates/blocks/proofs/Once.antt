-- What stands after `|||` is one thing, and where it ends is one place: each relation of specs/Blocks.antt has one answer.
-- Assumes nothing.
use mathlib.Core.Path.{◌≡◌, refl, sym, ◌∙◌, ap, subst}
use mathlib.Core.Bool.{Bool}
use mathlib.Core.List.{List, [], ◌∷◌, ◌++◌, nil≢cons, cons≢nil, head-eq_of_cons-eq, tail-eq_of_cons-eq, append_cancel_left}
use mathlib.Core.Logic.{⊎_elim}
use Prim.Native.Nat.{ℕ, ◌≤◌}
use native.Mathlib.Omega.{arith}
use lib.ListN.{length}
use Rattle.blocks.specs.Blocks.{Run, HeaderBlank, Blank, InLine, Dash, there, Header, header, Indent, first, Lines, empty, content, Found, Closing, closed, blank, failing, Last, another, cut, Body, no_indent, indented, Stands, no_line, no_new_line, after_header}
use Rattle.blocks.proofs.Runs.{run_once, run_head, run_length, sought_once, sought_length}
use Rattle.blocks.proofs.Texts.{lines_length}

pub dash_once : {s r r' : List ℕ} {d d' : Bool} → Dash s d r → Dash s d' r' → (d ≡ d') × (r ≡ r')
dash_once there there = (refl, refl)
dash_once there (Dash.other h) = absurd (h refl)
dash_once (Dash.other h) there = absurd (h refl)
dash_once (Dash.other h) (Dash.other g) = (refl, refl)
dash_once Dash.end Dash.end = (refl, refl)

pub header_once : {s r r' : List ℕ} {d d' : Bool} → Header s d r → Header s d' r' → (d ≡ d') × (r ≡ r')
header_once {r' = r'} (header d p) (header {blanks = blanks} e q) =
    let o = dash_once d e in
    (o.0, (run_once p (subst (λ (t : List ℕ). Run HeaderBlank t blanks r') (sym o.1) q)).1)

pub indent_once : {s l l' i i' : List ℕ} → Indent s l i → Indent s l' i' → (l ≡ l') × (i ≡ i')
indent_once {i' = i'} (first d p) (first {r = r} e q) =
    let o = (run_once d e).1 in
    (o, (run_once p (subst (λ (t : List ℕ). Run Blank t i' r) (sym o) q)).0)

-- an indent's first byte is no LF
pub indent_blank : {s l i : List ℕ} {b : ℕ} → Indent s l (b ∷ i) → b ≡ 0x0A → ⊥
indent_blank (first d p) e = ⊎_elim (λ h. omega arith) (λ h. omega arith) (run_head p)

-- Where lines have ended no further line stands.
record Ended (indent s : List ℕ) : Type 0 where
  not_empty : (r : List ℕ) → s ≡ 0x0A ∷ r → ⊥
  not_line : (t l u : List ℕ) → s ≡ indent ++ t → Run InLine t l (0x0A ∷ u) → ⊥

module _ {b : ℕ} {i : List ℕ} (no-feed : b ≡ 0x0A → ⊥) where
  last_ended : {s r : List ℕ} {ls : List (List ℕ)} {f : Found} → Last (b ∷ i) ls s f r → Ended (b ∷ i) s
  last_ended (another o d c) = record { not_empty = o.not_empty; not_line = λ t l u e q. o.not_content t e }
  last_ended (cut {t = t} e q) = record {
    not_empty = λ r g. no-feed (head-eq_of_cons-eq (sym e ∙ g));
    not_line = λ t' l u g p.
        let same : t' ≡ t = append_cancel_left (b ∷ i) t' t (sym g ∙ e) in
        nil≢cons (run_once q (subst (λ (x : List ℕ). Run InLine x l (0x0A ∷ u)) same p)).1;
  }

  lines_once :
      {s t t' : List ℕ} {ls ls' : List (List ℕ)} → Lines (b ∷ i) s ls t → Ended (b ∷ i) t → Lines (b ∷ i) s ls' t' → Ended (b ∷ i) t' →
      (ls ≡ ls') × (t ≡ t')
  lines_once Lines.none h Lines.none g = (refl, refl)
  lines_once Lines.none h (empty e) g = absurd (h.not_empty _ refl)
  lines_once Lines.none h (content a q e) g = absurd (h.not_line _ _ _ a q)
  lines_once (empty d) h Lines.none g = absurd (g.not_empty _ refl)
  lines_once (empty d) h (empty e) g = let o = lines_once d h e g in (ap (λ (ls : List (List ℕ)). [] ∷ ls) o.0, o.1)
  lines_once (empty d) h (content a q e) g = absurd (no-feed (sym (head-eq_of_cons-eq a)))
  lines_once (content a p d) h Lines.none g = absurd (g.not_line _ _ _ a p)
  lines_once (content a p d) h (empty e) g = absurd (no-feed (sym (head-eq_of_cons-eq a)))
  lines_once {t' = t'} (content {t = t} a p d) h (content {t = u} {line = l} {u = v} {lines = ls} c q e) g =
      let same : u ≡ t = append_cancel_left (b ∷ i) u t (sym c ∙ a) in
      let o = run_once p (subst (λ (x : List ℕ). Run InLine x l (0x0A ∷ v)) same q) in
      let w = lines_once d h (subst (λ (x : List ℕ). Lines (b ∷ i) x ls t') (sym (tail-eq_of_cons-eq o.1)) e) g in
      (cc (o.0, w.0), w.1)

closing_once : {s r r' : List ℕ} {ls : List (List ℕ)} {f f' : Found} → Closing ls s f r → Closing ls s f' r' → (f ≡ f') × (r ≡ r')
closing_once closed closed = (refl, refl)
closing_once closed (failing h d) = absurd (h _ refl)
closing_once blank blank = (refl, refl)
closing_once (failing h d) closed = absurd (h _ refl)
closing_once (failing h d) (failing g e) = (refl, sought_once d e)

last_once :
    {indent s r r' : List ℕ} {ls : List (List ℕ)} {f f' : Found} → Last indent ls s f r → Last indent ls s f' r' → (f ≡ f') × (r ≡ r')
last_once {r' = r'} {ls = ls} {f' = f'} (another o d c) (another p e k) =
    closing_once c (subst (λ (t : List ℕ). Closing ls t f' r') (sym (run_once d e).1) k)
last_once (another o d c) (cut e q) = absurd (o.not_content _ e)
last_once (cut e q) (another o d c) = absurd (o.not_content _ e)
last_once (cut e q) (cut g p) = (refl, refl)

-- lines and the line after them, read with one indent under two names
read_once :
    {j s t t' r r' : List ℕ} {b : ℕ} {i : List ℕ} {ls ls' : List (List ℕ)} {f f' : Found} → (b ≡ 0x0A → ⊥) → b ∷ i ≡ j → Lines (b ∷ i) s ls t →
    Last (b ∷ i) ls t f r → Lines j s ls' t' → Last j ls' t' f' r' → (f ≡ f') × (r ≡ r')
read_once {s = s} {t = t} {t' = t'} {r' = r'} {b = b} {i = i} {ls = ls} {ls' = ls'} {f' = f'} h e d k d' k' =
    let m : Lines (b ∷ i) s ls' t' = subst (λ (x : List ℕ). Lines x s ls' t') (sym e) d' in
    let n : Last (b ∷ i) ls' t' f' r' = subst (λ (x : List ℕ). Last x ls' t' f' r') (sym e) k' in
    let o = lines_once h d (last_ended h k) m (last_ended h n) in
    let n₁ : Last (b ∷ i) ls t' f' r' = subst (λ (x : List (List ℕ)). Last (b ∷ i) x t' f' r') (sym o.0) n in
    last_once k (subst (λ (x : List ℕ). Last (b ∷ i) ls x f' r') (sym o.1) n₁)

pub body_once : {s r r' : List ℕ} {f f' : Found} → Body s f r → Body s f' r' → (f ≡ f') × (r ≡ r')
body_once {r' = r'} (no_indent d k) (no_indent e m) = (refl, sought_once k (rw (indent_once d e).0 m))
body_once (no_indent d k) (indented e l m) = absurd (nil≢cons (indent_once d e).1)
body_once (indented d l k) (no_indent e m) = absurd (cons≢nil (indent_once d e).1)
body_once (indented d l k) (indented e m n) = read_once (indent_blank d) (indent_once d e).1 l k m n

pub stands_once : {s r r' : List ℕ} {f f' : Found} → Stands s f r → Stands s f' r' → (f ≡ f') × (r ≡ r')
stands_once (no_line h) (no_line g) = (refl, refl)
stands_once (no_line h) (no_new_line g n k) = absurd (nil≢cons (header_once h g).1)
stands_once (no_line h) (after_header g b) = absurd (nil≢cons (header_once h g).1)
stands_once (no_new_line h n k) (no_line g) = absurd (cons≢nil (header_once h g).1)
stands_once (no_new_line h n k) (no_new_line g m l) = (refl, sought_once k (rw (tail-eq_of_cons-eq (header_once h g).1) l))
stands_once (no_new_line h n k) (after_header g b) = absurd (n (head-eq_of_cons-eq (header_once h g).1))
stands_once (after_header h b) (no_line g) = absurd (cons≢nil (header_once h g).1)
stands_once (after_header h b) (no_new_line g n k) = absurd (n (sym (head-eq_of_cons-eq (header_once h g).1)))
stands_once {f' = f'} (after_header h b) (after_header g c) = body_once b (rw (tail-eq_of_cons-eq (header_once h g).1) c)

-- What follows is no longer than what it follows.
pub dash_length : {s r : List ℕ} {d : Bool} → Dash s d r → length r ≤ length s
dash_length there = omega arith
dash_length (Dash.other h) = omega arith
dash_length Dash.end = omega arith

pub header_length : {s r : List ℕ} {d : Bool} → Header s d r → length r ≤ length s
header_length (header d p) = omega (arith, dash_length d, run_length p)

last_length : {indent s r : List ℕ} {ls : List (List ℕ)} {f : Found} → Last indent ls s f r → length r ≤ length s
last_length (another o d closed) = omega (arith, run_length d)
last_length (another o d blank) = omega arith
last_length (another o d (failing h k)) = omega (arith, run_length d, sought_length k)
last_length (cut e q) = omega arith

indent_length : {s l i : List ℕ} → Indent s l i → length l ≤ length s
indent_length (first d p) = omega (arith, run_length d)

pub body_length : {s r : List ℕ} {f : Found} → Body s f r → length r ≤ length s
body_length (no_indent d k) = omega (arith, indent_length d, sought_length k)
body_length (indented d l k) = omega (arith, lines_length l, last_length k)

pub stands_length : {s r : List ℕ} {f : Found} → Stands s f r → length r ≤ length s
stands_length (no_line h) = omega arith
stands_length (no_new_line h n k) = omega (arith, header_length h, sought_length k)
stands_length (after_header h b) = omega (arith, header_length h, body_length b)
