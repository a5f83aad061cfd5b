-- What is lent is determined by the samples in it and by what is lent besides: two outcomes with the same of both are one.
use Prim.Native.Nat.{ℕ, ◌*◌, ◌/◌, ◌<◌, ◌≤◌}
use mathlib.Core.Path.{◌≡◌, sym, ap, ap₂, ◌∙◌}
use mathlib.Core.List.{List, ◌++◌, append_assoc}
use native.Mathlib.Omega.{arith}
use lib.IntN.{ℤ}
use lib.ListN.{length, take, drop, take-append-drop}
use lib.Seq.{length-take-le, drop-append-le}
use Rattle.format.specs.Lists.{tab, from, over}
use Rattle.format.specs.Numbers.{num, num_at, value, Below}
use Rattle.format.specs.Boundary.{samples_from, sample_bytes}
use Rattle.laws.proofs.Parts.{tab_cong, from_within}
use Rattle.laws.proofs.Each.{each_take}
use Rattle.laws.proofs.SampleBytes.{sample_bytes_length, sample_bytes_append, sample_bytes_drop, bytes_back}
use Rattle.lent_samples.specs.Lent.{bytes_behind}
use Rattle.lent_samples.specs.Containers.{Container, Words, Bytes, lent_of, rest_of}
use Rattle.lent_samples.proofs.Laws.{length_lent}

-- the bytes of the whole samples
abbrev front : List ℕ → List ℕ
front b = take (length b / 4 * 4) b

length_front : (b : List ℕ) → length (front b) ≡ length b / 4 * 4
length_front b = length-take-le (length b / 4 * 4) b (omega arith)

front_samples : (b : List ℕ) → samples_from (front b) ≡ samples_from b
unfolding samples_from num_at
front_samples b =
    let n : length (front b) / 4 ≡ length b / 4 = omega (arith, length_front b) in
    ap (λ (m : ℕ). tab m (λ k. value 32 (num 256 (from (4 * k) 4 (front b))))) n
    ∙ tab_cong (length b / 4) _ _ (λ k l.
    ap (λ (s : List ℕ). value 32 (num 256 s))
    (sym (from_within (4 * k) 4 (front b) (bytes_behind b) (omega (arith, length_front b))) ∙ ap (from (4 * k) 4) (take-append-drop (length b / 4 * 4) b)))

front_back : (b : List ℕ) → Below 256 b → sample_bytes (samples_from b) ≡ front b
front_back b h =
    ap sample_bytes (sym (front_samples b))
    ∙ bytes_back (front b) (each_take (λ x. x < 256) 0 (omega arith) (length b / 4 * 4) b h) (length b / 4) (omega (arith, length_front b))

pub same_bytes : (b d : List ℕ) → Below 256 b → Below 256 d → samples_from b ≡ samples_from d → bytes_behind b ≡ bytes_behind d → b ≡ d
same_bytes b d hb hd p q =
    sym (take-append-drop (length b / 4 * 4) b)
    ∙ ap₂ (λ (x y : List ℕ). x ++ y) (sym (front_back b hb) ∙ ap sample_bytes p ∙ front_back d hd) q
    ∙ take-append-drop (length d / 4 * 4) d

-- samples put over the front of the samples in b are their bytes put over the front of b
pub bytes_over : (xs : List ℤ) (b d : List ℕ) → Below 256 b → Below 256 d → length xs ≤ length b / 4
    → samples_from d ≡ over xs (samples_from b) → bytes_behind d ≡ bytes_behind b → d ≡ over (sample_bytes xs) b
unfolding over
bytes_over xs b d hb hd room p q =
    let n = 4 * length xs in
    let whole : length xs ≤ length (samples_from b) = omega (arith, length_lent b) in
    let behind : drop (length (sample_bytes xs)) b ≡ drop n (front b) ++ bytes_behind b =
    ap (λ (k : ℕ). drop k b) (sample_bytes_length xs) ∙ ap (drop n) (sym (take-append-drop (length b / 4 * 4) b))
    ∙ drop-append-le n (front b) (bytes_behind b) (omega (arith, length_front b)) in
    let samples : front d ≡ sample_bytes xs ++ drop n (front b) =
    sym (front_back d hd) ∙ ap sample_bytes p ∙ sample_bytes_append xs (drop (length xs) (samples_from b))
    ∙ ap (λ (ys : List ℕ). sample_bytes xs ++ ys) (sample_bytes_drop (length xs) (samples_from b) whole ∙ ap (drop n) (front_back b hb)) in
    sym (take-append-drop (length d / 4 * 4) d)
    ∙ ap₂ (λ (x y : List ℕ). x ++ y) samples q
    ∙ append_assoc (sample_bytes xs) (drop n (front b)) (bytes_behind b)
    ∙ ap (λ (ys : List ℕ). sample_bytes xs ++ ys) (sym behind)

pub one_outcome : (k : Container) (w v : List ℤ) (b d : List ℕ) → Below 256 b → Below 256 d → lent_of k w b ≡ lent_of k v d → rest_of k w b ≡ rest_of k v d → (w ≡ v) × (b ≡ d)
one_outcome Words w v b d hb hd p q = (p, ap (λ r. r.bytes) q)
one_outcome Bytes w v b d hb hd p q = (ap (λ r. r.words) q, same_bytes b d hb hd p (ap (λ r. r.bytes) q))
