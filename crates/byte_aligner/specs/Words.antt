-- The words that a call takes behind its tables, as many as there are: their slots and machine values, and the steps of a walk over their
-- locals. In the context of a walk they are one entry, so that no position depends on how many they are.
use Rattle.std.specs.Prelude.{◌≡◌, refl, ℕ, zero, suc, List, [], ◌∷◌, get_or}
use Rattle.std.proofs.Common.{ap, sym, subst, ◌∙◌}
use seplogic.Ra.Ura.{Ura}
use base.Fraction.{full_share}
use mir.Syntax.{Ty, Place, Step as PStep, Local, local, value_local, w64, ty_int, ty_enum, ttnil, place, Opd as Operand, copy}
use mir.Val.{Val, vint}
use base.Logic.{SProp, ent, sep, wand, ex, emp, id⊢, via, comm∗, assoc∗, assoc', mono_l, mono_r, wand_i, ex_i}
use base.Fml.{Share, ftrue, fat, froom, fdies}
use prog.Wp.{Env, Spot}
use types.Logic.{Logic, sem}
use contract.Lifetimes.{Lfts}
use types.Kit.{Item, ‵, ◌⊛◌, mean, ⋆, nth, del, pull, unpull, Goal, Seq, Step, step, allocs, passes, frees, ◌$◌, ◌∵◌, !, qed, move, drop, use0, split, join, fjoin, done}
use types.Run.{Reads, Walks, Finds, Opds, init, forget, stop, from, load, and_then, no_more, alloc1, pass1, pass0, free1}
use denote.RattleType.{Denots, Valss, flat, owns}
use denote.Laws.{Is, Ises, Are, Spells, valss, Tellss}
use denote.Plain.{uint_Makes, uint_vals, uint_Tells}
use Rattle.std.specs.Borrow.{u64}
use denote.Signature.{Slot, plain, types_at}
use denote.Steps.{owned, nothing}
use denote.Triple.End.{Kepts, Fins}
use denote.Triple.Walked.{Stays, stay_none, AllGo, Goes-none, fits_of, has_of}
use denote.Exit.{yes}
use Rattle.meaning.specs.Alignment.{Call}

-- the words themselves, whatever the lifetimes of a signature
abbrev pub Words : ℕ → Type 0
Words zero = Unit {0}
Words (suc k) = ℕ × Words k

-- the call that they are for
abbrev pub Rule : ℕ → Type 0
Rule k = Words k → Call

module _ (n : ℕ) where
  abbrev pub slots : ℕ → List (Slot n)
  slots zero = []
  slots (suc k) = plain (λ _. u64) ∷ slots k

  abbrev pub kept : (k : ℕ) → Kepts (slots k)
  kept zero = tt
  kept (suc k) = (yes, kept k)

  abbrev pub stayed : (k : ℕ) → Stays (slots k) (kept k)
  stayed zero = tt
  stayed (suc k) = (stay_none (λ _. u64) yes, stayed k)

  pub all_go : {M : Type 1} {𝓤 : Ura M} (𝓛 : Logic 𝓤) (k : ℕ) → AllGo 𝓛 n (slots k) (kept k) (stayed k)
  all_go 𝓛 zero = tt
  all_go 𝓛 (suc k) = (Goes-none 𝓛 n (λ _. u64) yes (λ κs x f. refl), all_go 𝓛 k)

  module _ (κs : Lfts n) where
    -- as the parameters of a signature
    abbrev pub Passed : ℕ → Type 0
    Passed k = Denots (types_at (slots k) κs)

    abbrev pub passed : (k : ℕ) → Words k → Passed k
    passed zero x = tt
    passed (suc k) x = (x.0, passed k x.1)

    abbrev pub words_of : (k : ℕ) → Passed k → Words k
    words_of zero x = tt
    words_of (suc k) x = (x.0, words_of k x.1)

    pub words_passed : (k : ℕ) (x : Words k) → words_of k (passed k x) ≡ x
    words_passed zero x = refl
    words_passed (suc k) x = rw (words_passed k x.1)

    abbrev pub spells : (k : ℕ) → Spells (types_at (slots k) κs)
    spells zero = tt
    spells (suc k) = (uint_vals w64, spells k)

    pub tells : (k : ℕ) → Tellss (types_at (slots k) κs) (Ises (types_at (slots k) κs)) (spells k)
    tells zero = tt
    tells (suc k) = (uint_Tells w64, tells k)

    abbrev pub values : (k : ℕ) → Passed k → Valss (types_at (slots k) κs)
    values k x = valss (types_at (slots k) κs) (spells k) x

    abbrev pub machine : (k : ℕ) → Passed k → List Val
    machine k x = flat (types_at (slots k) κs) (values k x)

    abbrev pub Fit : (k : ℕ) → Passed k → Type 0
    Fit k x = Are (types_at (slots k) κs) (Ises (types_at (slots k) κs)) x (values k x)

    abbrev pub lasts : (k : ℕ) (x : Passed k) → Fins κs (slots k) (kept k) x
    lasts zero x = tt
    lasts (suc k) x = (tt, lasts k x.1)

    pub fits : (k : ℕ) (x : Passed k) → fits_of κs (slots k) (kept k) (stayed k) x (lasts k x)
    fits zero x = tt
    fits (suc k) x = (tt, fits k x.1)

    -- a word owns nothing but what it is
    module _ {M : Type 1} {𝓤 : Ura M} (𝓛 : Logic 𝓤) where
      pub owning : (k : ℕ) (x : Passed k) → Fit k x → ent 𝓤 (emp 𝓤) (sem 𝓛 (owns (types_at (slots k) κs) x (values k x)))
      owning zero x g = id⊢ 𝓤 (emp 𝓤)
      owning (suc k) x g =
          qed 𝓛 [] ∵ use0 𝓛 (‵ (owns (types_at (slots k) κs) x.1 (values k x.1))) (owning k x.1 g.1) $
          owned ! u64 (Is u64) (uint_Makes 𝓛 w64) x.0 _ g.0 $ fjoin ! $ done !

      pub having : (k : ℕ) (x : Passed k) → Fit k x → ent 𝓤 (emp 𝓤) (sem 𝓛 (has_of κs (slots k) (kept k) (stayed k) x (lasts k x) (values k x)))
      having zero x g = id⊢ 𝓤 (emp 𝓤)
      having (suc k) x g =
          qed 𝓛 [] ∵ use0 𝓛 (‵ (has_of κs (slots k) (kept k) (stayed k) x.1 (lasts k x.1) (values k x.1))) (having k x.1 g.1) $
          owned ! u64 (Is u64) (uint_Makes 𝓛 w64) x.0 _ g.0 $ fjoin ! $ done !

-- words that fit in one signature fit in another
pub fit_passed : (n m : ℕ) (κs : Lfts n) (κs' : Lfts m) (k : ℕ) (x : Passed n κs k) → Fit n κs k x → Fit m κs' k (passed m κs' k (words_of n κs k x))
fit_passed n m κs κs' zero x f = tt
fit_passed n m κs κs' (suc k) x f = (f.0, fit_passed n m κs κs' k x.1 f.1)

-- ---- their locals
abbrev word : Ty
word = ty_int w64

-- the locals of words before others, their operands, and the number of a local behind them
abbrev pub before : ℕ → List Local → List Local
before zero ls = ls
before (suc k) ls = local word value_local ∷ before k ls

abbrev pub copies : ℕ → ℕ → List Operand
copies i zero = []
copies i (suc k) = copy (place i []) ∷ copies (suc i) k

abbrev pub past : ℕ → ℕ → ℕ
past zero j = j
past (suc k) j = suc (past k j)

abbrev pub Blocks : ℕ → Type 0
Blocks k = Words k

abbrev Locals : Type 0
Locals = List (Ty × ℕ)

abbrev none : Ty × ℕ
none = (ty_enum [] ttnil, zero)

abbrev pub env : (k : ℕ) → Blocks k → Locals → Locals
env zero bs E = E
env (suc k) bs E = (word, bs.0) ∷ env k bs.1 E

at_past : (k : ℕ) (bs : Blocks k) (E : Locals) (j : ℕ) → get_or (env k bs E) (past k j) none ≡ get_or E j none
at_past zero bs E j = refl
at_past (suc k) bs E j = at_past k bs.1 E j

-- the words' locals stand in the environment from number i on
abbrev Stand : Locals → ℕ → (k : ℕ) → Blocks k → Type 0
Stand E i zero bs = Unit {0}
Stand E i (suc k) bs = (get_or E i none ≡ (word, bs.0)) × Stand E (suc i) k bs.1

stand_behind : (e : Ty × ℕ) (E : Locals) (i k : ℕ) (bs : Blocks k) → Stand E i k bs → Stand (e ∷ E) (suc i) k bs
stand_behind e E i zero bs s = tt
stand_behind e E i (suc k) bs s = (s.0, stand_behind e E (suc i) k bs.1 s.1)

stand : (k : ℕ) (bs : Blocks k) (E : Locals) → Stand (env k bs E) 0 k bs
stand zero bs E = tt
stand (suc k) bs E = (refl, stand_behind (word, bs.0) (env k bs.1 E) 0 k bs.1 (stand k bs.1 E))

-- a frame: the result, the state and two tables stand before the words, the other locals behind them
abbrev pub frame : Ty × ℕ → Ty × ℕ → Ty × ℕ → Ty × ℕ → (k : ℕ) → Blocks k → Locals → Locals
frame e₀ e₁ e₂ e₃ k bs E = e₀ ∷ e₁ ∷ e₂ ∷ e₃ ∷ env k bs E

abbrev pub behind : ℕ → ℕ → List PStep → Place
behind k j st = place (suc (suc (suc (suc (past k j))))) st

stand_framed : (e₀ e₁ e₂ e₃ : Ty × ℕ) (k : ℕ) (bs : Blocks k) (E : Locals) → Stand (frame e₀ e₁ e₂ e₃ k bs E) 4 k bs
stand_framed e₀ e₁ e₂ e₃ k bs E =
    stand_behind e₀ (e₁ ∷ e₂ ∷ e₃ ∷ env k bs E) 3 k bs
    (stand_behind e₁ (e₂ ∷ e₃ ∷ env k bs E) 2 k bs
    (stand_behind e₂ (e₃ ∷ env k bs E) 1 k bs (stand_behind e₃ (env k bs E) 0 k bs (stand k bs E))))

-- ---- the entry of a context that holds them
module _ {M : Type 1} (𝓤 : Ura M) where
  abbrev pub rooms : (k : ℕ) → Blocks k → Item 𝓤
  rooms zero bs = ‵ ftrue
  rooms (suc k) bs = (‵ (froom word bs.0 zero) ⊛ ‵ (fdies word bs.0)) ⊛ rooms k bs.1

  abbrev pub cells : (k : ℕ) → Blocks k → Words k → Item 𝓤
  cells zero bs x = ‵ ftrue
  cells (suc k) bs x = (‵ (fat full_share word bs.0 zero (vint w64 x.0)) ⊛ ‵ (fdies word bs.0)) ⊛ cells k bs.1 x.1

module _ {M : Type 1} {𝓤 : Ura M} {𝓛 : Logic 𝓤} {K : Type 0} where
  open 𝓛 use {H}

  pub allocs_words : {Γ : List (Item 𝓤)} → K → (k : ℕ) {ls : List Local} {Kt : Env 𝓤 H → Goal 𝓤 H}
      → ((bs : Blocks k) → Seq K 𝓛 (rooms 𝓤 k bs ∷ Γ) (allocs ls (λ E. Kt (env k bs E)))) → Seq K 𝓛 Γ (allocs (before k ls) Kt)
  allocs_words t zero h = nothing t $ h tt
  allocs_words {Γ = Γ} t (suc k) h =
      alloc1 t (λ b. allocs_words {Γ = ‵ (froom word b zero) ∷ ‵ (fdies word b) ∷ Γ} t k
      (λ bs. move t (1 ∷ 2 ∷ 0 ∷ []) $ join t $ join t $ h (b, bs)))

  pub pass_words : {Γ : List (Item 𝓤)} → K → (n : ℕ) (κs : Lfts n) (k : ℕ) (bs : Blocks k) (x : Passed n κs k) → Fit n κs k x
      → (E : Env 𝓤 H) {g : Goal 𝓤 H} → Step K 𝓛 (cells 𝓤 k bs (words_of n κs k x) ∷ Γ) g (rooms 𝓤 k bs ∷ Γ) (passes (env k bs E) (machine n κs k x) g)
  pass_words t n κs zero bs x f E = pass0 t
  pass_words {Γ = Γ} t n κs (suc k) bs x f E =
      step (λ s. split t $ split t $ pass1 t (init t 0 refl (tt, record { fits = f.0.1 })) $ move t (2 ∷ 0 ∷ 1 ∷ []) $
      pass_words {Γ = ‵ (fat full_share word bs.0 zero (vint w64 x.0)) ∷ ‵ (fdies word bs.0) ∷ Γ} t n κs k bs.1 x.1 f.1 E $
      move t (1 ∷ 2 ∷ 0 ∷ []) $ join t $ join t $ s)

module _ {M : Type 1} {𝓤 : Ura M} {𝓛 : Logic 𝓤} {K : Type 0} {Γ : List (Item 𝓤)} where
  open 𝓛 use {H}

  pub free_words : K → (k : ℕ) (bs : Blocks k) (x : Words k) {E : Env 𝓤 H} {g : Goal 𝓤 H} → Step K 𝓛 Γ (frees E g) (cells 𝓤 k bs x ∷ Γ) (frees (env k bs E) g)
  free_words t zero bs x = drop t
  free_words t (suc k) bs x = step (λ s. split t $ split t $ forget t 0 refl $ free1 t $ free_words t k bs.1 x.1 $ s)

  -- the place of local j behind the words, in a frame
  pub find : K → (k : ℕ) (bs : Blocks k) (E : Env 𝓤 H) (j : ℕ) {e₀ e₁ e₂ e₃ : Ty × ℕ} {st : List PStep} {sp : Spot 𝓤 H}
      → Walks K 𝓛 Γ (frame e₀ e₁ e₂ e₃ k bs E) ((get_or E j none).0, (get_or E j none).1, zero) st sp
      → Finds K 𝓛 Γ (frame e₀ e₁ e₂ e₃ k bs E) (behind k j st) sp
  find t k bs E j {e₀} {e₁} {e₂} {e₃} {st} {sp} w =
      from t (subst (λ (f : Ty × ℕ). Walks K 𝓛 Γ (frame e₀ e₁ e₂ e₃ k bs E) (f.0, f.1, zero) st sp) (sym (at_past k bs E j)) w)

  -- the place of a word
  from_word : K → {E : Env 𝓤 H} {i : ℕ} {e : Ty × ℕ} → get_or E i none ≡ e → {st : List PStep} {sp : Spot 𝓤 H}
      → Walks K 𝓛 Γ E (e.0, e.1, zero) st sp → Finds K 𝓛 Γ E (place i st) sp
  from_word t {E} e {st} {sp} w = from t (subst (λ (f : Ty × ℕ). Walks K 𝓛 Γ E (f.0, f.1, zero) st sp) (sym e) w)

-- ---- words as operands
-- P can be taken out of the context Γ, and put back
record Holds {M : Type 1} {𝓤 : Ura M} (𝓛 : Logic 𝓤) (Γ : List (Item 𝓤)) (P : SProp 𝓤) : Type 2 where
  rest : SProp 𝓤
  out : ent 𝓤 (⋆ 𝓛 Γ) (sep 𝓤 P rest)
  back : ent 𝓤 (sep 𝓤 P rest) (⋆ 𝓛 Γ)

module _ {M : Type 1} {𝓤 : Ura M} (𝓛 : Logic 𝓤) (Γ : List (Item 𝓤)) where
  holds : (p : ℕ) (i : Item 𝓤) → nth 𝓛 p Γ ≡ i → Holds 𝓛 Γ (mean 𝓛 i)
  holds p i e = record {
    rest = ⋆ 𝓛 (del 𝓛 p Γ);
    out = subst (λ (j : Item 𝓤). ent 𝓤 (⋆ 𝓛 Γ) (sep 𝓤 (mean 𝓛 j) (⋆ 𝓛 (del 𝓛 p Γ)))) e (pull 𝓛 p Γ);
    back = subst (λ (j : Item 𝓤). ent 𝓤 (sep 𝓤 (mean 𝓛 j) (⋆ 𝓛 (del 𝓛 p Γ))) (⋆ 𝓛 Γ)) e (unpull 𝓛 p Γ);
  }

  holds_first : (P Q : SProp 𝓤) → Holds 𝓛 Γ (sep 𝓤 P Q) → Holds 𝓛 Γ P
  holds_first P Q h = record {
    rest = sep 𝓤 Q h.rest;
    out = via 𝓤 (sep 𝓤 (sep 𝓤 P Q) h.rest) h.out (assoc∗ 𝓤 P Q h.rest);
    back = via 𝓤 (sep 𝓤 (sep 𝓤 P Q) h.rest) (assoc' 𝓤 P Q h.rest) h.back;
  }

  holds_second : (P Q : SProp 𝓤) → Holds 𝓛 Γ (sep 𝓤 P Q) → Holds 𝓛 Γ Q
  holds_second P Q h = holds_first Q P (record {
    rest = h.rest;
    out = via 𝓤 (sep 𝓤 (sep 𝓤 P Q) h.rest) h.out (mono_l 𝓤 h.rest (comm∗ 𝓤 P Q));
    back = via 𝓤 (sep 𝓤 (sep 𝓤 P Q) h.rest) (mono_l 𝓤 h.rest (comm∗ 𝓤 Q P)) h.back;
  })

module _ {M : Type 1} {𝓤 : Ura M} {𝓛 : Logic 𝓤} {K : Type 0} {Γ : List (Item 𝓤)} where
  open 𝓛 use {H}

  reads : K → (q : Share) (τ : Ty) (b o : ℕ) (v : Val) → Holds 𝓛 Γ (H.at q τ b o v) → Reads K 𝓛 Γ τ b o v
  reads t q τ b o v h =
      let P : SProp 𝓤 = H.at q τ b o v in
      record {
        go = λ Kt g.
            via 𝓤 (sep 𝓤 P h.rest) h.out
            (via 𝓤 (sep 𝓤 P (wand 𝓤 P (Kt v)))
            (mono_r 𝓤 P (wand_i 𝓤 h.rest P (Kt v) (via 𝓤 (sep 𝓤 P h.rest) (comm∗ 𝓤 h.rest P) (via 𝓤 (⋆ 𝓛 Γ) h.back g))))
            (via 𝓤 (ex 𝓤 (λ (u : Val). sep 𝓤 (H.at q τ b o u) (wand 𝓤 (H.at q τ b o u) (Kt u))))
            (ex_i 𝓤 (λ (u : Val). sep 𝓤 (H.at q τ b o u) (wand 𝓤 (H.at q τ b o u) (Kt u))) v)
            (ex_i 𝓤 (λ (s : Share). ex 𝓤 (λ (u : Val). sep 𝓤 (H.at s τ b o u) (wand 𝓤 (H.at s τ b o u) (Kt u)))) q)));
      }

  loads : K → (n : ℕ) (κs : Lfts n) (k i : ℕ) (bs : Blocks k) (x : Passed n κs k) {E : Env 𝓤 H} → Stand E i k bs
      → Holds 𝓛 Γ (mean 𝓛 (cells 𝓤 k bs (words_of n κs k x))) → Opds K 𝓛 Γ E (copies i k) (machine n κs k x)
  loads t n κs zero i bs x s h = no_more t
  loads t n κs (suc k) i bs x s h =
      let c : SProp 𝓤 = H.at full_share word bs.0 zero (vint w64 x.0) in
      let d : SProp 𝓤 = H.dies word bs.0 in
      let l : SProp 𝓤 = mean 𝓛 (cells 𝓤 k bs.1 (words_of n κs k x.1)) in
      and_then t (load t (from_word t s.0 (stop t)) (reads t full_share word bs.0 zero (vint w64 x.0)
      (holds_first 𝓛 Γ c d (holds_first 𝓛 Γ (sep 𝓤 c d) l h))))
      (loads t n κs k (suc i) bs.1 x.1 s.1 (holds_second 𝓛 Γ (sep 𝓤 c d) l h))

  -- the words as the last operands of a call in a frame, where entry p of the context holds them: as they were passed, and to another signature
  pub load_passed : K → (n : ℕ) (κs : Lfts n) (k p : ℕ) (bs : Blocks k) (E : Env 𝓤 H) (x : Passed n κs k) {e₀ e₁ e₂ e₃ : Ty × ℕ}
      → nth 𝓛 p Γ ≡ cells 𝓤 k bs (words_of n κs k x) → Opds K 𝓛 Γ (frame e₀ e₁ e₂ e₃ k bs E) (copies 4 k) (machine n κs k x)
  load_passed t n κs k p bs E x {e₀} {e₁} {e₂} {e₃} e =
      loads t n κs k 4 bs x (stand_framed e₀ e₁ e₂ e₃ k bs E) (holds 𝓛 Γ p (cells 𝓤 k bs (words_of n κs k x)) e)

  pub load_words : K → (n : ℕ) (κs : Lfts n) (k p : ℕ) (bs : Blocks k) (E : Env 𝓤 H) (x : Words k) {e₀ e₁ e₂ e₃ : Ty × ℕ}
      → nth 𝓛 p Γ ≡ cells 𝓤 k bs x → Opds K 𝓛 Γ (frame e₀ e₁ e₂ e₃ k bs E) (copies 4 k) (machine n κs k (passed n κs k x))
  load_words t n κs k p bs E x e =
      load_passed t n κs k p bs E (passed n κs k x) (e ∙ ap (λ (ws : Words k). cells 𝓤 k bs ws) (sym (words_passed n κs k x)))
