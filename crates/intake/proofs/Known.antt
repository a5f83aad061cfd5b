-- What an input gives where its bytes are known, into the middle of what is lent.
use Rattle.std.proofs.Common.{◌≡◌, ℕ, ◌+◌, ◌≤◌, List, ◌++◌, length, take, drop, Option, sym, ap, subst, ◌∙◌, le_refl, drop_at, length-take-le}
use Rattle.std.specs.Io.KnownBytes.{Consumes}
use Rattle.std.proofs.KnownBytes.{Consumes-trans}
use Rattle.std.proofs.lemmas.Slice.{take-put_mid_below}
use borrow.Rule.Slice.PartMut.{put_mid, post_of}
use lib.Seq.{take-add, take-append-le}

-- n bytes more are read behind the first `at` of what is lent
module _ (lent part : List ℕ) (at room n : ℕ) (inside : at ≤ length lent) (fits : n ≤ length part) where
  behind : take n (drop at (put_mid at room lent part)) ≡ take n part
  behind =
      let rest = post_of at room lent in
      ap (take n) (drop_at (take at lent) (part ++ rest) at (length-take-le at lent inside)) ∙ take-append-le n part rest fits

  joined : take at lent ++ take n part ≡ take (at + n) (put_mid at room lent part)
  joined =
      let now = put_mid at room lent part in
      let front = take-put_mid_below at room lent part at (le_refl at) inside in
      ap (λ l. l ++ take n part) (sym front) ∙ ap (λ l. take at now ++ l) (sym behind) ∙ sym (take-add at n now)

  pub read_more :
      (a b c : Option (List ℕ)) → Consumes a b (take at lent) → Consumes b c (take n part) →
      Consumes a c (take (at + n) (put_mid at room lent part))
  read_more a b c first more = subst (Consumes a c) joined (Consumes-trans a b c _ _ first more)
