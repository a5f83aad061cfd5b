-- Lists by their parts: a part that was laid behind others is found where their lengths add up to.
use Prim.Native.Nat.{ℕ, zero, suc, ◌+◌, ◌-◌, ◌*◌, ◌≤◌, ◌<◌}
use mathlib.Core.Path.{◌≡◌, refl, sym, ap, ap₂, ◌∙◌, subst}
use mathlib.Core.List.{List, [], ◌∷◌, ◌++◌, append_assoc, append-nil}
use mathlib.Core.Logic.{◌⊎◌, ⊎_elim, inl, inr}
use native.Mathlib.Omega.{arith}
use native.Mathlib.Nat.{mul-suc, mul-zero, mul_comm, add-zero, add-suc, zero-add, suc-add}
use native.Mathlib.Decide.{dec_lt}
use native.Mathlib.Numerals.{add-one}
use lib.ListN.{length, get_or, set, take, drop, length-append, length-drop, get_or-append}
use lib.Seq.{take-suc-set, drop-set-lt, append_snoc, take_at, drop_at, drop-cons, take-add, take-nil, take-take, drop-drop, ext_get_or, drop-append-add, drop-append-le, take-append-le, length-take-le, get_or-append-add}
use Rattle.format.specs.Lists.{tab, joined, from}

pub below_suc : (k n : ℕ) → k < suc n → (k ≡ n) ⊎ (k < n)
below_suc k n l = elim (dec_lt k n) [ yes h ↦ inr h | no h ↦ inl (omega arith) ]

module _ {A : Type 0} where
  -- the element at k, and those after it
  pub left_now : (l : List A) (k : ℕ) (d : A) → k < length l → drop k l ≡ get_or l k d ∷ drop (k + 1) l
  left_now l k d h = rw (add-one, ← drop-cons l k d h)

  -- a loop that stores one element a turn, from the front: one more is done, and what is left is as it was
  pub done_more : (l ys : List A) (k : ℕ) (v : A) → k < length l → take (k + 1) (set l k v) ++ ys ≡ take k l ++ (v ∷ ys)
  done_more l ys k v h = rw (add-one, take-suc-set l k v h) (append_snoc (take k l) v ys)

  pub left_more : (l : List A) (k : ℕ) (v : A) → drop (k + 1) (set l k v) ≡ drop (k + 1) l
  left_more l k v = drop-set-lt (k + 1) l k v (omega arith)

  pub length_tab : (n : ℕ) (f : ℕ → A) → length (tab n f) ≡ n
  unfolding tab
  length_tab zero f = refl
  length_tab (suc n) f = ap suc (length_tab n (λ k. f (suc k)))

  pub get_d_tab : (n : ℕ) (f : ℕ → A) (k : ℕ) (z : A) → k < n → get_or (tab n f) k z ≡ f k
  unfolding tab
  get_d_tab zero f k z h = absurd (omega arith)
  get_d_tab (suc n) f zero z h = refl
  get_d_tab (suc n) f (suc k) z h = get_d_tab n (λ j. f (suc j)) k z (omega arith)

  pub tab_cong : (n : ℕ) (f g : ℕ → A) → ((k : ℕ) → k < n → f k ≡ g k) → tab n f ≡ tab n g
  unfolding tab
  tab_cong zero f g h = refl
  tab_cong (suc n) f g h = ap₂ (λ (x : A) (l : List A). x ∷ l) (h 0 (omega arith)) (tab_cong n (λ k. f (suc k)) (λ k. g (suc k)) (λ k p. h (suc k) (omega arith)))

  pub is_tab : (z : A) (n : ℕ) (f : ℕ → A) (l : List A) → length l ≡ n → ((k : ℕ) → k < n → get_or l k z ≡ f k) → tab n f ≡ l
  is_tab z n f l e h = sym (ext_get_or z l (tab n f) (e ∙ sym (length_tab n f)) (λ k p. h k (omega arith) ∙ sym (get_d_tab n f k z (omega arith))))

  length_joined : (P : ℕ → List A) (n : ℕ) → length (joined P (suc n)) ≡ length (joined P n) + length (P n)
  unfolding joined
  length_joined P n = length-append (joined P n) (P n)

  -- parts of one length
  pub length_below : (P : ℕ → List A) (w n : ℕ) → ((k : ℕ) → k < n → length (P k) ≡ w) → length (joined P n) ≡ w * n
  unfolding joined
  length_below P w zero h = sym (mul-zero w)
  length_below P w (suc n) h = length-append (joined P n) (P n) ∙ omega (arith, length_below P w n (λ k l. h k (omega arith)), h n (omega arith), mul-suc w n)

  pub length_even : (P : ℕ → List A) (w : ℕ) → ((k : ℕ) → length (P k) ≡ w) → (n : ℕ) → length (joined P n) ≡ w * n
  length_even P w h n = length_below P w n (λ k l. h k)

  -- parts of at most so much
  pub length_most : (P : ℕ → List A) (w : ℕ) → ((k : ℕ) → length (P k) ≤ w) → (n : ℕ) → length (joined P n) ≤ w * n
  unfolding joined
  length_most P w h zero = omega arith
  length_most P w h (suc n) = omega (arith, length-append (joined P n) (P n), length_most P w h n, h n, mul-suc w n)

  -- more parts take no less
  pub length_mono : (P : ℕ → List A) (k n : ℕ) → k ≤ n → length (joined P k) ≤ length (joined P n)
  length_mono P k zero l = let e : k ≡ 0 = omega arith in rw e (omega arith)
  length_mono P k (suc n) l =
      ⊎_elim
      (λ (e : k ≡ suc n). rw e (omega arith))
      (λ (h : k < suc n). omega (arith, length_mono P k n (omega arith), length_joined P n))
      (below_suc k (suc n) (omega arith))

  -- what lies before and after part g
  pub around : (P : ℕ → List A) (g n : ℕ) → g < n → (t : List A) × (joined P n ≡ joined P g ++ (P g ++ t))
  unfolding joined
  around P g zero l = absurd (omega arith)
  around P g (suc n) l =
      ⊎_elim
      (λ (e : g ≡ n). ([], subst (λ (k : ℕ). joined P (suc n) ≡ joined P k ++ (P k ++ [])) (sym e) (sym (ap (λ (x : List A). joined P n ++ x) (append-nil (P n))))))
      (λ (h : g < n). let i = around P g n h in (
        i.0 ++ P n,
        ap (λ (x : List A). x ++ P n) i.1 ∙ append_assoc (joined P g) (P g ++ i.0) (P n) ∙ ap (λ (x : List A). joined P g ++ x) (append_assoc (P g) i.0 (P n)),
      ))
      (below_suc g n l)

  -- element c of part i, of parts of one length
  pub joined_at : (P : ℕ → List A) (w : ℕ) → ((k : ℕ) → length (P k) ≡ w) → (n i c : ℕ) (z : A) → i < n → c < w → get_or (joined P n) (i * w + c) z ≡ get_or (P i) c z
  joined_at P w h n i c z l q =
      let a = around P i n l in
      let e : i * w + c ≡ length (joined P i) + c = omega (arith, length_even P w h i, mul_comm i w) in
      ap₂ (λ (s : List A) (x : ℕ). get_or s x z) a.1 e ∙ get_or-append-add (joined P i) (P i ++ a.0) c z ∙ get_or-append (P i) a.0 z c (omega (arith, h i))

  -- part g, behind what stands before it
  pub behind : (P : ℕ → List A) (g n : ℕ) (c : List A) → g < n → (t : List A) × (drop (length (joined P g)) (joined P n ++ c) ≡ P g ++ t)
  behind P g n c l =
      let i = around P g n l in (
        i.0 ++ c,
        ap (λ (x : List A). drop (length (joined P g)) (x ++ c)) i.1
            ∙ ap (drop (length (joined P g))) (append_assoc (joined P g) (P g ++ i.0) c ∙ ap (λ (x : List A). joined P g ++ x) (append_assoc (P g) i.0 c))
            ∙ drop_at (joined P g) (P g ++ (i.0 ++ c)) (length (joined P g)) refl,
      )

  pub part_at : (P : ℕ → List A) (g n i m : ℕ) (a c : List A) → g < n → i ≡ length a + length (joined P g) → m ≡ length (P g) → from i m (a ++ (joined P n ++ c)) ≡ P g
  unfolding from
  part_at P g n i m a c l e f =
      let b = behind P g n c l in
      ap (λ (x : ℕ). take m (drop x (a ++ (joined P n ++ c)))) e
      ∙ ap (take m) (drop-append-add a (joined P n ++ c) (length (joined P g)) ∙ b.1)
      ∙ take_at (P g) b.0 m (sym f)

  pub joined_cong : (P Q : ℕ → List A) (n : ℕ) → ((k : ℕ) → k < n → P k ≡ Q k) → joined P n ≡ joined Q n
  unfolding joined
  joined_cong P Q zero h = refl
  joined_cong P Q (suc n) h = ap₂ (λ (x y : List A). x ++ y) (joined_cong P Q n (λ k l. h k (omega arith))) (h n (omega arith))

  -- the first m parts, and those behind them
  pub joined_add : (P : ℕ → List A) (m n : ℕ) → joined P (m + n) ≡ joined P m ++ joined (λ k. P (m + k)) n
  unfolding joined
  joined_add P m zero = ap (joined P) (add-zero m) ∙ sym (append-nil (joined P m))
  joined_add P m (suc n) =
      ap (joined P) (add-suc m n) ∙ ap (λ (x : List A). x ++ P (m + n)) (joined_add P m n) ∙ append_assoc (joined P m) (joined (λ k. P (m + k)) n) (P (m + n))

  -- the parts of a list, joined
  pub joined_from : (w : ℕ) (xs : List A) (n : ℕ) → joined (λ g. from (w * g) w xs) n ≡ take (w * n) xs
  unfolding joined from
  joined_from w xs zero = sym (ap (λ (k : ℕ). take k xs) (mul-zero w))
  joined_from w xs (suc n) =
      ap (λ (x : List A). x ++ take w (drop (w * n) xs)) (joined_from w xs n) ∙ sym (take-add (w * n) w xs) ∙ ap (λ (k : ℕ). take k xs) (sym (mul-suc w n))

module _ {A : Type 0} where
  -- behind what was put at the front, what was there stays
  pub drop_behind : (a l : List A) (n m : ℕ) → length a ≡ n → m ≡ n → drop m (a ++ drop n l) ≡ drop m l
  drop_behind a l n m e q = ap (λ (x : ℕ). drop x (a ++ drop n l)) q ∙ drop_at a (drop n l) n e ∙ ap (λ (x : ℕ). drop x l) (sym q)

  -- ---- parts of parts
  pub from_skip : (a c : List A) (i k n : ℕ) → length a ≡ i → from (i + k) n (a ++ c) ≡ from k n c
  unfolding from
  from_skip a c i k n e = ap (λ (x : ℕ). take n (drop (x + k) (a ++ c))) (sym e) ∙ ap (take n) (drop-append-add a c k)

  pub from_within : (k n : ℕ) (b c : List A) → k + n ≤ length b → from k n (b ++ c) ≡ from k n b
  unfolding from
  from_within k n b c h =
      ap (take n) (drop-append-le k b c (omega arith)) ∙ take-append-le n (drop k b) c (omega (arith, length-drop k b))

  pub from_front : (n : ℕ) (b c : List A) → length b ≡ n → from 0 n (b ++ c) ≡ b
  unfolding from
  from_front n b c e = take_at b c n e

  drop_take : (k m : ℕ) (l : List A) → drop k (take (k + m) l) ≡ take m (drop k l)
  drop_take zero m l = ap (λ (n : ℕ). take n l) (zero-add m)
  drop_take (suc k) m [] = ap (drop (suc k)) (take-nil (suc k + m)) ∙ sym (take-nil m)
  drop_take (suc k) m (x ∷ xs) = ap (λ (n : ℕ). drop (suc k) (take n (x ∷ xs))) (suc-add k m) ∙ drop_take k m xs

  pub from_from : (k n i m : ℕ) (s : List A) → k + n ≤ m → from k n (from i m s) ≡ from (i + k) n s
  unfolding from
  from_from k n i m s h =
      let j : m ≡ k + (m - k) = omega arith in
      ap (λ (x : ℕ). take n (drop k (take x (drop i s)))) j
      ∙ ap (take n) (drop_take k (m - k) (drop i s))
      ∙ take-take n (m - k) (drop k (drop i s)) (omega arith)
      ∙ ap (take n) (drop-drop k i s)

  pub from_take : (k n m : ℕ) (s : List A) → k + n ≤ m → from k n (take m s) ≡ from k n s
  unfolding from
  from_take k n m s h = from_from k n 0 m s h ∙ ap (λ (x : ℕ). take n (drop x s)) (zero-add k)

  -- lists with one part in common have the parts of it in common
  pub from_same : (k n i m : ℕ) (s t : List A) → k + n ≤ m → from i m s ≡ from i m t → from (i + k) n s ≡ from (i + k) n t
  from_same k n i m s t h e = sym (from_from k n i m s h) ∙ ap (from k n) e ∙ from_from k n i m t h

  pub length_from : (i n : ℕ) (s : List A) → i + n ≤ length s → length (from i n s) ≡ n
  unfolding from
  length_from i n s h = length-take-le n (drop i s) (omega (arith, length-drop i s))

-- one part more
pub one_more : {A : Type 0} (P : ℕ → List A) (k : ℕ) → length (joined P (k + 1)) ≡ length (joined P k) + length (P k)
one_more P k = ap (λ (n : ℕ). length (joined P n)) (add-one k) ∙ length_joined P k

-- two parts that meet
pub meet : {A : Type 0} (i n m : ℕ) (s : List A) → from i n s ++ from (i + n) m s ≡ from i (n + m) s
unfolding from
meet {A} i n m s = ap (λ (x : List A). take n (drop i s) ++ take m x) (sym (drop-drop n i s)) ∙ sym (take-add n m (drop i s))
