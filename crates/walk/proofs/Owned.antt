-- What a walk owns, and a walk in memory, for the proofs by hand. A walk owns what its file owns, whatever its number. Assumes nothing.
use mathlib.Core.Path.{◌≡◌, refl}
use Prim.Native.Nat.{ℕ, ◌<◌, ◌^◌}
use mathlib.Core.List.{List, [], ◌∷◌}
use lib.Dec.{T as Holds}
use lib.ListN.{length}
use seplogic.Ra.Ura.{Ura}
use base.Fraction.{full_share}
use mir.Syntax.{Lifetime, named, erased, w32}
use mir.Val.{Val, WT, has_ty}
use base.Logic.{ent, guard, via}
use base.Fml.{Lft, Fml, fsep, fat}
use types.Logic.{Logic, sem}
use types.Kit.{‵, given, ◌⊛◌, ⋆, ◌$◌, ◌∵◌, !, qed, by, move, keep, drop, use1, split, learn, check, fsplit, fjoin, fpick, fpack, done}
use denote.RattleType.{RattleType}
use denote.Laws.{Is, shows}
use denote.Memory.{mem, cell_at, part_of}
use denote.Plain.{uint_Makes}
use denote.Builtin.{u8, u32}
use denote.Ref.{Bor, NamedLft}
use denote.Slice.{slice_val, ShrSlice, shr_slice_Lawful}
use denote.Steps.{owned, peeks, nothing}
use denote.Struct.Declared.{Declared}
use denote.Struct.Laws as LL
use denote.Struct.Rest.{all_own, field_own, rest, own_open, own_out, own_shut}
use denote.Struct.Steps.{spelt}
use Rattle.walk.specs.declared.Walk.{Walk}
use Rattle.walk.specs.contracts.Walk as T
use Rattle.walk.proofs.Walk.TheLaws as T'

-- the walk over a file that stands at group n
abbrev pub standing : Bor (List ℕ) → ℕ → Walk
standing file n = record { file = file; next = n }

-- the machine value of a file
abbrev pub file_val : Bor (List ℕ) → Val
file_val file = slice_val file.ref_ptr (length file.now)

-- `Walk<'a>`, where 'a is the lifetime κ and is called ℓ
module _ (ℓ : Lifetime) (κ : Lft) where
  abbrev α : NamedLft
  α = record { mir = ℓ; lft = κ }

  abbrev pub WalkRow : RattleType
  WalkRow = T.the_row α

  abbrev D : Declared
  D = T.the_type α

  abbrev L : LL.Laws D
  L = T'.the_laws α

  abbrev pub FileOwn : Bor (List ℕ) → Fml
  FileOwn file = (ShrSlice (named 0) κ u8).own_val file (file_val file ∷ [])

  abbrev pub WalkOwn : Walk → Fml
  WalkOwn w = WalkRow.own_val w (T'.lowered w ∷ [])

  -- what a walk is known to be: its machine value has the type that a local has, whose lifetimes are erased, and its number fits
  module _ {M : Type 1} {𝓤 : Ura M} (𝓛 : Logic 𝓤) (w : Walk) (is : Is WalkRow w (T'.lowered w ∷ [])) where
    pub walk_typed : Holds (has_ty (T'.mir erased) (T'.lowered w)) × WT (T'.lowered w)
    walk_typed = ((LL.lawful D L 𝓛).typed w _ is).0

    pub next_fits : w.next < 2 ^ 32
    next_fits = walk_typed.1.1.0.fits

  module _ {M : Type 1} {𝓤 : Ura M} (𝓛 : Logic 𝓤) where
    -- a walk that is made of a file and a number
    pub made_typed : (file : Bor (List ℕ)) (n : ℕ) → Is (ShrSlice (named 0) κ u8) file (file_val file ∷ []) → n < 2 ^ 32 → Holds (has_ty (T'.mir erased) (T'.lowered (standing file n))) × WT (T'.lowered (standing file n))
    made_typed file n is fits = (tt, (((shr_slice_Lawful 𝓛 (named 0) κ u8).typed file _ is).0.1, (record { fits = fits }, tt)))

    pub stands : (file : Bor (List ℕ)) (n : ℕ) → n < 2 ^ 32 → ent 𝓤 (sem 𝓛 (FileOwn file)) (sem 𝓛 (WalkOwn (standing file n)))
    stands file n fits = qed 𝓛 (‵ (FileOwn file) ∷ []) ∵ nothing ! $ owned ! u32 (Is u32) (uint_Makes 𝓛 w32) n _ (refl, fits) $ fjoin ! $ move ! (1 ∷ 0 ∷ []) $ fjoin ! $ by ! (own_shut 𝓛 D L (file, (n, tt)))

    pub file_of : (w : Walk) → ent 𝓤 (sem 𝓛 (WalkOwn w)) (sem 𝓛 (FileOwn w.file))
    file_of w =
        qed 𝓛 (‵ (WalkOwn w) ∷ []) ∵ use1 𝓛 (given (T'.lowered w ∷ [] ≡ T'.lowered w ∷ []) (‵ (all_own D.parts L (w.file, (w.next, tt))))) (own_open 𝓛 D L (w.file, (w.next, tt)) (T'.lowered w)) $ learn ! (λ _.
        use1 𝓛 (‵ (field_own D.parts L 0 w.file) ⊛ ‵ (rest D.parts L 0 (w.file, (w.next, tt)))) (own_out 𝓛 D.parts L 0 (w.file, (w.next, tt))) $ split ! $ keep ! (0 ∷ []) $ done !)

    -- the same file at another number
    pub moves : (w : Walk) (n : ℕ) → n < 2 ^ 32 → ent 𝓤 (sem 𝓛 (WalkOwn w)) (sem 𝓛 (WalkOwn (standing w.file n)))
    moves w n fits = via 𝓤 _ (file_of w) (stands w.file n fits)

    -- a local l that holds a walk, and the walk that lies there
    pub lies : (w : Walk) (l : ℕ) → ent 𝓤 (⋆ 𝓛 (‵ (fat full_share (T'.mir erased) l 0 (T'.lowered w)) ∷ ‵ (WalkOwn w) ∷ [])) (sem 𝓛 ((mem WalkRow).own_at w l 0))
    unfolding part_of
    lies w l =
        qed 𝓛 (‵ (fat full_share (T'.mir erased) l 0 (T'.lowered w)) ∷ ‵ (WalkOwn w) ∷ []) ∵ use1 𝓛 (‵ (cell_at full_share WalkRow.mir (T'.lowered w ∷ []) l 0)) (𝓛.laws.at_raw full_share (T'.mir erased) l 0 (T'.lowered w)) $ fjoin ! $
        fpack ! (List Val) (λ vs. fsep (cell_at full_share WalkRow.mir vs l 0) (WalkRow.own_val w vs)) (T'.lowered w ∷ []) $ done !

    pub found : (w : Walk) (l : ℕ) → ent 𝓤 (sem 𝓛 ((mem WalkRow).own_at w l 0)) (guard 𝓤 (w.next < 2 ^ 32) (sem 𝓛 (fat full_share (T'.mir erased) l 0 (T'.lowered w))))
    unfolding part_of
    found w l =
        qed 𝓛 (‵ ((mem WalkRow).own_at w l 0) ∷ []) ∵ fpick ! (λ vs. fsplit ! $ spelt ! WalkRow (Is WalkRow) (shows 𝓛 WalkRow) (LL.vals D L) (LL.tells D L) full_share w vs l 0 $
        move ! (1 ∷ []) $ peeks ! WalkRow (Is WalkRow) (shows 𝓛 WalkRow) w (T'.lowered w ∷ []) (λ is. drop ! $
        use1 𝓛 (‵ (fat full_share (T'.mir erased) l 0 (T'.lowered w))) (𝓛.laws.raw_at full_share (T'.mir erased) l 0 (T'.lowered w)) $ check ! (next_fits 𝓛 w is) $ done !))
