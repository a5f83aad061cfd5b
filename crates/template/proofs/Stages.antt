-- What the checks of a template answer at each way out, from what the calls' contracts and the tests give.
use Rattle.std.specs.Prelude.{Ok, Err, is_err}
use Prim.Native.Nat.{ℕ, ◌+◌, ◌*◌, ◌≤◌}
use mathlib.Core.Path.{◌≡◌, refl, sym, ◌∙◌}
use mathlib.Core.Bool.{Bool, true, false}
use mathlib.Core.List.{List}
use native.Mathlib.Omega.{arith}
use lib.IntN.{ℤ}
use lib.ListN.{length}
use lib.Dec.{leb}
use borrow.Author.Tests.{lt-leb}
use Rattle.format.specs.Lists.{over}
use Rattle.format.specs.Header.{groups_of, entry}
use Rattle.format.specs.Refusals.{Checked, Fine, refuse, ◌then◌}
use Rattle.format.specs.Answers.{refused_by, wrote}
use Rattle.format.specs.Opening.{check_offsets}
use Rattle.format.specs.Reencoding.{check_bounds, check_template, check_reencode}
use Rattle.format.specs.Reencoding.{check_reencode_into, reencoded_file, reencode_of, reencode_into}
use Rattle.format.specs.declared.refusals.Refusal.{Refusal}
use Rattle.format.specs.declared.refusals.Refusal.TheVariants.{TemplateBounds, OutputTooShort}
use Rattle.format.specs.declared.refusals.RefusedAt.{RefusedAt}
use Rattle.format.specs.declared.settings.PcmSpec.{PcmSpec}
use Rattle.format.specs.declared.answers.Fields.{Fields}
use Rattle.format.specs.declared.answers.Answer.{Answer}
use Rattle.laws.proofs.Checks.{first_fine, has_room}
use Rattle.laws.proofs.Opened.{data_past, data_within}
use Rattle.laws.proofs.TemplateFiles.{long_ok}
use Rattle.laws.proofs.Chain.{any_none, any_more}

-- ---- 41: what opening refuses by other numbers
refuse_four : (q w x y z : Refusal) (a b c d : Bool) → refuse (is_err (refuse a w then refuse b x then refuse c y then refuse d z)) q ≡ (refuse a q then refuse b q then refuse c q then refuse d q)
unfolding refuse ◌then◌
refuse_four q w x y z true b c d = refl
refuse_four q w x y z false true c d = refl
refuse_four q w x y z false false true d = refl
refuse_four q w x y z false false false true = refl
refuse_four q w x y z false false false false = refl

none_refused : (q : Refusal) (k : Checked) → refuse (is_err k) q ≡ Fine → k ≡ Fine
unfolding refuse
none_refused q (Ok ok) e = refl
none_refused q (Err refused) e = cc

module _ (h : Fields) (n : ℕ) where
  pub bounds_are : refuse (is_err (check_offsets h n)) TemplateBounds ≡ check_bounds h n
  unfolding check_offsets check_bounds
  bounds_are = refuse_four _ _ _ _ _ _ _ _ _

  -- the table that is read is there
  pub table_there : (b : Checked) → b ≡ check_bounds h n → b ≡ Fine → h.table + 4 * (groups_of h.frames + 1) ≤ n
  table_there b says e =
      let fine = none_refused TemplateBounds (check_offsets h n) (bounds_are ∙ sym says ∙ e) in
      omega (arith, data_past h n fine, data_within h n fine)

-- ---- 42: whether an entry is not below the next
abbrev pub falls : List ℕ → Fields → ℕ → Bool
falls t h = λ k. leb (entry t h (k + 1)) (entry t h k)

pub ruleset falling = (any_none, any_more, lt-leb)

-- ---- the template's groups, after 30 to 33 and the template
pub template_long : (p : PcmSpec) (s : List ℤ) (t : List ℕ) (d : Checked) → d ≡ check_template p s t → d ≡ Fine → 32 ≤ length t
template_long p s t d template passes = omega (arith, long_ok p s t (sym template ∙ passes))

-- ---- and the answer: k is what they say
module _ (p : PcmSpec) (s : List ℤ) (t out : List ℕ) (k : Checked) (says : k ≡ check_reencode_into p s t (length out)) where
  pub reencode_refused : (e : RefusedAt) → k ≡ Err e → (x : Answer) → x ≡ refused_by e.why e.place → x ≡ reencode_of p s t (length out)
  unfolding reencode_of
  reencode_refused e is x f = rw (← says, is) f

  pub reencode_keeps : (e : RefusedAt) → k ≡ Err e → out ≡ reencode_into p s t out
  unfolding reencode_into
  reencode_keeps e is = rw (← says, is)

  module _ (fine : k ≡ Fine) where
    pub reencode_fine : check_reencode p s t ≡ Fine
    unfolding check_reencode_into
    reencode_fine = first_fine _ _ (sym says ∙ fine)

    pub reencode_room : length t ≤ length out
    unfolding check_reencode_into
    reencode_room = has_room (check_reencode p s t) (length out) (length t) OutputTooShort (sym says ∙ fine)

    pub reencode_wrote : (x : Answer) → x ≡ wrote (length t) → x ≡ reencode_of p s t (length out)
    unfolding reencode_of
    reencode_wrote x f = rw (← says, fine) f

    pub reencode_writes : (after : List ℕ) → after ≡ over (reencoded_file s t) out → after ≡ reencode_into p s t out
    unfolding reencode_into
    reencode_writes after f = rw (← says, fine) f
