-- A pass over bytes b, and then over c behind them, is one over b ++ c.
use Rattle.std.specs.Prelude.{Some, None}
use Prim.Native.Nat.{ℕ, ◌+◌}
use mathlib.Core.Path.{◌≡◌, refl, sym, ap, ◌∙◌}
use mathlib.Core.Bool.{Bool, true, false, ◌&&◌, cond, and_assoc}
use mathlib.Core.List.{List, [], ◌∷◌, ◌++◌}
use native.Mathlib.Nat.{add-zero}
use native.Mathlib.Omega.{arith}
use lib.ListN.{length, take, drop, length-append}
use lib.Seq.{length-sets, drop-drop}
use lib.Dec.{eqb}
use Rattle.format.specs.Lists.{from, same}
use Rattle.laws.proofs.Over.{sets_join}
use Rattle.peaks.specs.Passes.{found, left, Fits}
use Rattle.peaks.specs.declared.pass.Pass.{Pass}
use Rattle.peaks.specs.declared.pass.Pass.TheVariants.{Measure, Write, Compare}

-- ---- lists compared part by part
same_parts : (b c t : List ℕ) → same (b ++ c) (take (length (b ++ c)) t) ≡ (same b (take (length b) t) && same c (take (length c) (drop (length b) t)))
unfolding same
same_parts [] c t = refl
same_parts (x ∷ b) c [] = refl
same_parts (x ∷ b) c (y ∷ t) = ap (λ (k : Bool). eqb x y && k) (same_parts b c t) ∙ sym (and_assoc (eqb x y) (same b (take (length b) t)) (same c (take (length c) (drop (length b) t))))

same_join : (at : ℕ) (b c held : List ℕ) → same (b ++ c) (from at (length (b ++ c)) held) ≡ (same b (from at (length b) held) && same c (from (at + length b) (length c) held))
unfolding from
same_join at b c held = same_parts b c (drop at held) ∙ ap (λ (l : List ℕ). same b (take (length b) (drop at held)) && same c (take (length c) l)) (drop-drop (length b) at held)

module _ (at : ℕ) (b c held : List ℕ) where
  join : cond (same (b ++ c) (from at (length (b ++ c)) held)) (Some (at + length (b ++ c))) None
      ≡ cond (same b (from at (length b) held)) (cond (same c (from (at + length b) (length c) held)) (Some (at + length b + length c)) None) None
  join =
      let long : at + length (b ++ c) ≡ at + length b + length c = omega (arith, length-append b c) in
      rw (same_join at b c held, long) (by (same b (from at (length b) held)))
    where
      by : (t : Bool) → cond (t && same c (from (at + length b) (length c) held)) (Some (at + length b + length c)) None
          ≡ cond t (cond (same c (from (at + length b) (length c) held)) (Some (at + length b + length c)) None) None
      by true = refl
      by false = refl

-- ---- where it stopped, which only a comparison does
module _ (pass : Pass) (at : ℕ) (b c held : List ℕ) (stop : found pass at b held ≡ None) where
  compares : pass ≡ Compare
  compares = by pass stop
    where
      by : (p : Pass) → found p at b held ≡ None → p ≡ Compare
      by Measure e = cc
      by Write e = cc
      by Compare e = refl

  pub stops : found pass at (b ++ c) held ≡ None
  stops = rw compares (join at b c held ∙ by (same b (from at (length b) held)) (rw compares at stop))
    where
      by : (t : Bool) → cond t (Some (at + length b)) None ≡ None → cond t (cond (same c (from (at + length b) (length c) held)) (Some (at + length b + length c)) None) None ≡ None
      by true e = cc
      by false e = refl

  pub stops_left : (out : List ℕ) → left pass at (b ++ c) out ≡ left pass at b out
  stops_left out = rw compares

-- ---- where it went on, to m
pub length_left : (pass : Pass) (at : ℕ) (b out : List ℕ) → length (left pass at b out) ≡ length out
length_left Measure at b out = refl
length_left Write at b out = length-sets out at b
length_left Compare at b out = refl

left_join : (pass : Pass) (at : ℕ) (b c out : List ℕ) → left pass at (b ++ c) out ≡ left pass (at + length b) c (left pass at b out)
left_join Measure at b c out = refl
left_join Write at b c out = sym (sets_join b c out at)
left_join Compare at b c out = refl

found_join : (pass : Pass) (at m : ℕ) (b c held : List ℕ) → found pass at b held ≡ Some m → found pass at (b ++ c) held ≡ found pass (at + length b) c held
found_join Measure at m b c held e = ap Some (omega (arith, length-append b c))
found_join Write at m b c held e = ap Some (omega (arith, length-append b c))
found_join Compare at m b c held e = join at b c held ∙ by (same b (from at (length b) held)) e
  where
    by : (t : Bool) → cond t (Some (at + length b)) None ≡ Some m
        → cond t (cond (same c (from (at + length b) (length c) held)) (Some (at + length b + length c)) None) None
        ≡ cond (same c (from (at + length b) (length c) held)) (Some (at + length b + length c)) None
    by true q = refl
    by false q = cc

module _ (pass : Pass) (at m : ℕ) (b held : List ℕ) (on : found pass at b held ≡ Some m) where
  pub place_is : m ≡ at + length b
  place_is = by pass on
    where
      tested : (t : Bool) → cond t (Some (at + length b)) None ≡ Some m → m ≡ at + length b
      tested true q = cc
      tested false q = cc

      by : (p : Pass) → found p at b held ≡ Some m → m ≡ at + length b
      by Measure e = cc
      by Write e = cc
      by Compare e = tested (same b (from at (length b) held)) e

  pub goes : (c : List ℕ) → found pass at (b ++ c) held ≡ found pass m c held
  goes c = rw place_is (found_join pass at m b c held on)

  pub goes_left : (c out : List ℕ) → left pass at (b ++ c) out ≡ left pass m c (left pass at b out)
  goes_left c out = rw place_is (left_join pass at b c out)

  -- and has room there, where both have
  pub next_fits : (c out after : List ℕ) → after ≡ left pass at b out → Fits pass at (b ++ c) out → Fits pass m c after
  next_fits c out after leaves fits =
      let below = fits.0 in
      let joined = length-append b c in
      let long : length after ≡ length out = ap length leaves ∙ length_left pass at b out in
      (omega (arith, place_is, below, joined), λ w. let room = fits.1 w in omega (arith, place_is, room, joined, long))

-- ---- where it went on over b, and stopped at p
module _ (pass : Pass) (start at : ℕ) (b p c held : List ℕ) (on : found pass start b held ≡ Some at) (stop : found pass at p held ≡ None) where
  pub halts : None ≡ found pass start (b ++ (p ++ c)) held
  halts = sym (goes pass start at b held on (p ++ c) ∙ stops pass at p c held stop)

  pub halts_left : (before out after : List ℕ) → out ≡ left pass start b before → after ≡ left pass at p out → after ≡ left pass start (b ++ (p ++ c)) before
  halts_left before out after e q = q ∙ ap (left pass at p) e ∙ sym (goes_left pass start at b held on (p ++ c) before ∙ stops_left pass at p c held stop _)

-- ---- nothing
pub nothing_found : (pass : Pass) (at : ℕ) (held : List ℕ) → found pass at [] held ≡ Some at
unfolding same from
nothing_found Measure at held = ap Some (add-zero at)
nothing_found Write at held = ap Some (add-zero at)
nothing_found Compare at held = ap Some (add-zero at)

pub nothing_left : (pass : Pass) (at : ℕ) (out : List ℕ) → left pass at [] out ≡ out
nothing_left Measure at out = refl
nothing_left Write at out = refl
nothing_left Compare at out = refl

pub length_both : (b c : List ℕ) → length (b ++ c) ≡ length b + length c
length_both b c = length-append b c

pub ruleset runs = (stops, stops_left, place_is, goes, goes_left, length_left, length_both)
