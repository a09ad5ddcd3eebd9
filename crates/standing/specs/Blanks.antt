-- Blanks: a run of them is never missed, and stands at once: where it ended, none is left, and it looks no further than a run from
-- there.
use Rattle.std.specs.Prelude.{◌≡◌, refl, drop}
use mathlib.Core.List.{List}
use Prim.Native.Nat.{ℕ, zero, suc, ◌≤◌}
use Rattle.std.proofs.Common.{arith}
use Rattle.meaning.specs.Quoted.{bytes}
use Rattle.meaning.specs.Rules.{Rule}
use Rattle.meaning.specs.Peg.{Peg, seq, star}
use Rattle.meaning.specs.Forest.{Forest, nil}
use Rattle.meaning.specs.Pdl.{WHITESPACE, block_comment, line_comment, COMMENT, skip}
use Rattle.locality.specs.Plain.{Out, missed, took, plain, Took, Holds}
use Rattle.locality.specs.Holding.{holds_map}
use Rattle.locality.specs.Least.{least}
use Rattle.locality.specs.PlainLaws.{seq_took, star_is}
use Rattle.locality.specs.Looks.{seq_f, star_sf, far, star_unfold}
use Rattle.locality.specs.Stars.{Still, seq_ends, still_star, star_ge, star_ends}
use Rattle.locality.specs.Absorbing.{Absorbs, Bound, one, abs_up, abs_nil, far_seq, far_alt, far_rule, abs_star, far_star, lost_le, abs_const, one_le, le_one, abs_one}
use Rattle.locality.specs.Literals.{byte, far_bytes, abs_lit, far_lit, far_text, to_le, sees, far_pos}
use Rattle.locality.specs.Failures.{lost_head}

pub far_block : {e : List ℕ → ℕ} → Absorbs (far block_comment) block_comment e
unfolding block_comment
far_block = far_seq (far_seq (far_lit _) abs_nil (far_text (bytes "*/") (omega arith))) (abs_lit _ (to_le (bytes "*/"))) (far_lit _)

far_line : Absorbs (far line_comment) line_comment one
unfolding line_comment
far_line = far_seq (far_lit _) abs_nil (abs_up (λ s. omega (arith, to_le (bytes "\n") s, le_one s)) (far_text (bytes "\n") (omega arith)))

pub far_comment : Absorbs (far COMMENT) COMMENT one
unfolding COMMENT block_comment line_comment
far_comment = far_rule Rule.COMMENT (far_alt far_block (lost_head block_comment line_comment refl) far_line)

pub far_ws : Absorbs (far (star WHITESPACE)) (star WHITESPACE) one
unfolding byte least WHITESPACE
far_ws = far_bytes WHITESPACE refl refl

unfoldable pub turn : Peg
turn = seq COMMENT (star WHITESPACE)

pub far_turn : Absorbs (far turn) turn one
unfolding turn
far_turn = far_seq far_comment (abs_star abs_one (λ s. omega arith)) far_ws

pub skip_took : (s : List ℕ) → Took (plain skip s)
unfolding plain skip
skip_took s =
    seq_took (plain (star WHITESPACE) s) (λ n. plain (star (seq COMMENT (star WHITESPACE))) (drop n s)) (star_is WHITESPACE s)
    (λ n. star_is (seq COMMENT (star WHITESPACE)) (drop n s))

-- ---- where a run ends

holds_unit : (o : Out) → Holds (λ n f. Unit {0}) o
holds_unit missed = tt
holds_unit (took n f) = tt

ws_ends : (s : List ℕ) → Holds (λ n f. Still WHITESPACE (drop n s)) (plain (star WHITESPACE) s)
ws_ends s = holds_map (plain (star WHITESPACE) s) (λ n f x. x.1) (star_ends WHITESPACE (λ t. Unit {0}) (λ t. holds_unit (plain WHITESPACE t)) s tt)

turn_ends : (s : List ℕ) → Holds (λ n f. Still WHITESPACE (drop n s)) (plain turn s)
unfolding turn
turn_ends s = seq_ends COMMENT (star WHITESPACE) (λ t. Unit {0}) (Still WHITESPACE) s (holds_unit (plain COMMENT s)) (λ t i. ws_ends t)

Done : List ℕ → Type 0
Done s = Still WHITESPACE s × Still turn s

skip_ends : (s : List ℕ) → Holds (λ n f. Done (drop n s)) (plain skip s)
unfolding skip turn Done plain
skip_ends s = seq_ends (star WHITESPACE) (star turn) (Still WHITESPACE) Done s (ws_ends s) (λ t i. star_ends turn (Still WHITESPACE) turn_ends t i)

-- ---- a run of blanks, from its end

done_took : (s : List ℕ) → Done s → plain skip s ≡ took 0 nil
unfolding skip turn Done plain
done_took s d = rw (still_star WHITESPACE s d.0, still_star turn s d.1)

done_far : (s : List ℕ) → Done s → far (star turn) s ≤ far skip s
unfolding skip turn Done far
done_far s d = rw (still_star WHITESPACE s d.0) (omega arith)

turns_pos : (s : List ℕ) → 1 ≤ far (star turn) s
unfolding sees turn COMMENT block_comment
turns_pos s = far_pos (star turn) s refl

pub skip_pos : (s : List ℕ) → 1 ≤ far skip s
unfolding sees skip WHITESPACE
skip_pos s = far_pos skip s refl

turns_step : Absorbs (far (star turn)) turn (far (star turn))
turns_step = record { at = λ s. rw (star_unfold turn s).1 (go s (plain turn s) (far_turn.at s)) }
  where
    go : (s : List ℕ) (o : Out) → Bound o (far turn s) (λ n. one (drop n s))
        → Bound o (star_sf (far turn s) o (λ n. far (star turn) (drop n s))) (λ n. far (star turn) (drop n s))
    go s missed i = tt
    go s (took zero f) i = omega (arith, star_ge turn s)
    go s (took (suc n) f) i = omega (arith, one_le (drop (suc n) s), turns_pos (drop (suc n) s))

far_turns : Absorbs (far (star turn)) (star turn) (far (star turn))
far_turns = far_star (abs_up (λ s. omega (arith, one_le s, turns_pos s)) far_turn) turns_step (λ s. omega (arith, lost_le turn s, star_ge turn s))

far_skip₁ : Absorbs (far skip) skip (far (star turn))
unfolding skip turn plain far
far_skip₁ = record { at = (far_seq far_ws (abs_const 1 one_le turns_pos) far_turns).at }

-- what blanks and then q look at, from before a run of blanks and from after it
pub look : (q : Peg) → Absorbs (far (seq skip q)) skip (far (seq skip q))
unfolding far
look q = record { at = λ s. go s (plain skip s) (far_skip₁.at s) (skip_ends s) }
  where
    go : (s : List ℕ) (o : Out) → Bound o (far skip s) (λ n. far (star turn) (drop n s)) → Holds (λ n f. Done (drop n s)) o
        → Bound o (seq_f (far skip s) o (λ n. far q (drop n s))) (λ n. seq_f (far skip (drop n s)) (plain skip (drop n s)) (λ m. far q (drop m (drop n s))))
    go s missed i d = tt
    go s (took n f) i d = rw (done_took (drop n s) d) (omega (arith, done_far (drop n s) d))

pub far_skip : Absorbs (far skip) skip (far skip)
far_skip = record { at = λ s. go s (plain skip s) (far_skip₁.at s) (skip_ends s) }
  where
    go : (s : List ℕ) (o : Out) → Bound o (far skip s) (λ n. far (star turn) (drop n s)) → Holds (λ n f. Done (drop n s)) o
        → Bound o (far skip s) (λ n. far skip (drop n s))
    go s missed i d = tt
    go s (took n f) i d = omega (arith, done_far (drop n s) d)

-- after a run of blanks there is none
pub skip_again : (s : List ℕ) (k : ℕ) (g : Forest) → plain skip s ≡ took k g → plain skip (drop k s) ≡ took 0 nil
skip_again s k g e = done_took (drop k s) (rw e at (skip_ends s))
