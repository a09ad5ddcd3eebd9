-- Laws of texts on a page: one byte, one text behind another, a loop from its start to its end, and a page that begins at any place.
use Rattle.std.specs.Prelude.{ℕ, ◌+◌, ◌≤◌, ◌<◌, min, max, ◌≡◌, refl, List, [], ◌∷◌, ◌++◌, Bool, true, false, leb, ltb, length, get_or, drop, set}
use Rattle.std.proofs.Common.{sym, ap, ap₂, subst, ◌∙◌, arith, add-one, length-set, drop_of_length-le, drop-cons, lt-ltb, le-ltb, ltb-true, leb-true, leb-false}
use Rattle.meaning.specs.Choice.{pick}
use Rattle.printing.specs.declared.pages.Page as lent
use Rattle.printing.specs.Pages.{Page, page, sheet, put, wrote, Wrote, WroteAt, Left}

wrote_append : (xs ys : List ℕ) (p : Page) → wrote (xs ++ ys) p ≡ wrote ys (wrote xs p)
unfolding wrote
wrote_append [] ys p = refl
wrote_append (x ∷ xs) ys p = wrote_append xs ys (put x p)

-- ---- one byte
pub byte_fits : (b : ℕ) {p q : lent.Page} → p.at < length p.bytes.now → q.at ≡ p.at + 1 → q.bytes.now ≡ set p.bytes.now p.at b
    → q.bytes.ghost_name ≡ p.bytes.ghost_name → Wrote (b ∷ []) p q
unfolding wrote put
byte_fits b {p} h at now name = record { is = rw (lt-ltb p.at (length p.bytes.now) h, at, now) refl; same_bytes = name }

pub byte_full : (b : ℕ) (p : lent.Page) → length p.bytes.now ≤ p.at → Wrote (b ∷ []) p p
unfolding wrote put
byte_full b p h = record { is = rw (le-ltb p.at (length p.bytes.now) h); same_bytes = refl }

-- ---- nothing, and one text behind another
pub none_wrote : (p : lent.Page) → Wrote [] p p
unfolding wrote
none_wrote p = record { is = refl; same_bytes = refl }

pub then_wrote : {xs ys : List ℕ} {p q t : lent.Page} → Wrote xs p q → Wrote ys q t → Wrote (xs ++ ys) p t
then_wrote {xs} {ys} {p} a b =
    record {
      is = b.is ∙ ap (wrote ys) a.is ∙ sym (wrote_append xs ys (sheet p));
      same_bytes = b.same_bytes ∙ a.same_bytes;
    }

-- ---- a loop
pub loop_start : (whole : List ℕ) (p : lent.Page) → Left whole whole p p
loop_start whole p = record { gives = refl; same_bytes = refl }

pub loop_step : {x rest rest' whole : List ℕ} {p q t : lent.Page} → rest ≡ x ++ rest' → Left rest whole p q → Wrote x q t → Left rest' whole p t
loop_step {x} {rest' = rest'} {q = q} e l w =
    record {
      gives = ap (wrote rest') w.is ∙ sym (wrote_append x rest' (sheet q)) ∙ ap (λ (z : List ℕ). wrote z (sheet q)) (sym e) ∙ l.gives;
      same_bytes = w.same_bytes ∙ l.same_bytes;
    }

pub loop_end : {rest whole : List ℕ} {p q : lent.Page} → rest ≡ [] → Left rest whole p q → Wrote whole p q
unfolding wrote
loop_end {q = q} e l =
    record {
      is = ap (λ (z : List ℕ). wrote z (sheet q)) (sym e) ∙ l.gives;
      same_bytes = l.same_bytes;
    }

-- the next byte of a text
pub next_byte : (t : List ℕ) (i : ℕ) → i < length t → drop i t ≡ (get_or t i 0 ∷ []) ++ drop (i + 1) t
next_byte t i h = rw (add-one i, drop-cons t i 0 h)

pub no_byte : (t : List ℕ) (i : ℕ) → length t ≤ i → drop i t ≡ []
no_byte t i h = drop_of_length-le t h

-- ---- a page that begins at any place of a slice
-- q has as much on it as p, or more, and is no fuller than full where p is not
abbrev Grown : Page → Page → Type 0
Grown p q = (p.used ≤ q.used) × (p.used ≤ length p.bytes → q.used ≤ length q.bytes)

put_grown : (b : ℕ) (p : Page) → Grown p (put b p)
unfolding put
put_grown b p = go (ltb p.used (length p.bytes)) refl
  where
    go : (d : Bool) → ltb p.used (length p.bytes) ≡ d → Grown p (pick d (page (p.used + 1) (set p.bytes p.used b)) p)
    go true e = let h : p.used < length p.bytes = ltb-true _ _ e in (omega arith, λ _. rw length-set (omega arith))
    go false e = (omega arith, λ h. h)

wrote_grown : (text : List ℕ) (p : Page) → Grown p (wrote text p)
unfolding wrote
wrote_grown [] p = (omega arith, λ h. h)
wrote_grown (b ∷ bs) p =
    let one : Grown p (put b p) = put_grown b p in
    let rest : Grown (put b p) (wrote bs (put b p)) = wrote_grown bs (put b p) in
    (omega arith, λ h. rest.1 (one.1 h))

-- a full page takes no text
wrote_full : (text : List ℕ) (p : Page) → length p.bytes ≤ p.used → wrote text p ≡ p
unfolding wrote put
wrote_full [] p h = refl
wrote_full (b ∷ bs) p h = rw (le-ltb p.used (length p.bytes) h) (wrote_full bs p h)

pub full_wrote : (text : List ℕ) (at : ℕ) (before : List ℕ) → length before ≤ at → WroteAt text at before at before
full_wrote text at before h = record { is = sym (wrote_full text (page at before) h); fits = λ z. z }

pub then_wrote_at : {xs ys p q t : List ℕ} {at r s : ℕ} → WroteAt xs at p r q → WroteAt ys r q s t → WroteAt (xs ++ ys) at p s t
then_wrote_at {xs} {ys} {p} {at = at} a b =
    record { is = b.is ∙ ap (wrote ys) a.is ∙ sym (wrote_append xs ys (page at p)); fits = λ h. b.fits (a.fits h) }

-- what a writer leaves of such a page is what is written of the slice and the place; the place is the page's then, and one past the end stays
module _ (text : List ℕ) (at : ℕ) (bytes : List ℕ) {p q : lent.Page} (begins : p.at ≡ min at (length bytes)) (lends : p.bytes.now ≡ bytes)
    (w : Wrote text p q) where
  within : at ≤ length bytes → WroteAt text at bytes (max at q.at) q.bytes.now
  within h =
      let s : sheet p ≡ page at bytes = ap₂ page (omega arith) lends in
      let t : sheet q ≡ wrote text (page at bytes) = w.is ∙ ap (wrote text) s in
      let g : Grown (page at bytes) (sheet q) = subst (Grown (page at bytes)) (sym t) (wrote_grown text (page at bytes)) in
      let e : max at q.at ≡ q.at = omega (arith, g.0) in
      record { is = ap (λ (n : ℕ). page n q.bytes.now) e ∙ t; fits = λ l. omega (arith, g.1 l) }

  past : length bytes ≤ at → WroteAt text at bytes (max at q.at) q.bytes.now
  past h =
      let s : sheet p ≡ page (length bytes) bytes = ap₂ page (omega arith) lends in
      let t : sheet q ≡ page (length bytes) bytes = w.is ∙ ap (wrote text) s ∙ wrote_full text (page (length bytes) bytes) (omega arith) in
      let u : q.at ≡ length bytes = ap (λ (x : Page). x.used) t in
      let v : q.bytes.now ≡ bytes = ap (λ (x : Page). x.bytes) t in
      let e : max at q.at ≡ at = omega arith in
      rw (e, v) (full_wrote text at bytes h)

  pub behind_wrote : WroteAt text at bytes (max at q.at) q.bytes.now
  behind_wrote = go (leb at (length bytes)) refl
    where
      go : (d : Bool) → leb at (length bytes) ≡ d → WroteAt text at bytes (max at q.at) q.bytes.now
      go true e = within (leb-true _ _ e)
      go false e = let h : length bytes < at = leb-false _ _ e in past (omega arith)
