-- What encoding and re-encoding leave in a room that is filled before and changed at a place after,
-- and when that is as recorded.
use Rattle.std.specs.Prelude.{ℕ, ◌%◌, Bool, true, ◌&&◌, cond, List, length, take, ℤ, ltb, eqb}
use Rattle.format.specs.Encoding.{encode_of, encode_into}
use Rattle.format.specs.Reencoding.{reencode_of, reencode_into}
use Rattle.format.specs.Boundary.{samples_from, mode_of, host_encode, host_encode_into}
use Rattle.format.specs.Boundary.{host_reencode, host_reencode_into, host_reencode_refusal}
use Rattle.format.specs.declared.settings.PcmSpec.{PcmSpec}
use Rattle.replay_list.specs.Said.{said_by, said_by_host, word_of}
use Rattle.replay_list.specs.Bytes.{marked_bytes, spoiled_bytes, is_answered}
use Rattle.replay_list.specs.declared.answers.Recorded.{Recorded}
use Rattle.replay_list.specs.declared.answers.Said.{Said}
use Rattle.replay_writing.specs.declared.Way.{Way}
use Rattle.replay_writing.specs.declared.Way.TheVariants.{Encode, Reencode}

-- the samples that the bytes are, as many as there is room for
abbrev pub taken : ℕ → List ℕ → List ℤ
taken most bytes = take most (samples_from bytes)

-- the bytes are whole samples
abbrev pub are_whole : List ℕ → Bool
are_whole bytes = eqb (length bytes % 4) 0

-- ---- what a call says and leaves in its room, by the way: encoding, or re-encoding with the template t

-- the entry, given samples xs and so many bytes of room
abbrev pub entry_says : Way → PcmSpec → List ℕ → List ℤ → ℕ → Said
entry_says (Encode mode) p t xs n = said_by (encode_of p (mode_of mode) xs n)
entry_says Reencode p t xs n = said_by (reencode_of p xs t n)

abbrev pub entry_puts : Way → PcmSpec → List ℕ → List ℤ → List ℕ → List ℕ
entry_puts (Encode mode) p t xs room = encode_into p (mode_of mode) xs room
entry_puts Reencode p t xs room = reencode_into p xs t room

-- the host boundary, given the bytes s
abbrev pub host_says : Way → PcmSpec → List ℕ → List ℕ → Recorded → ℕ → Said
host_says (Encode mode) p t s want n = said_by_host (host_encode s p mode n) want
host_says Reencode p t s want n = said_by_host (host_reencode s p t n) want

abbrev pub host_puts : Way → PcmSpec → List ℕ → List ℕ → List ℕ → List ℕ
host_puts (Encode mode) p t s room = host_encode_into s p mode room
host_puts Reencode p t s room = host_reencode_into s p t room

-- it tells what it refuses in so many bytes of room, and where, as recorded; of encoding it tells no more than its
-- number, and that counts as recorded
abbrev pub host_tells : Way → PcmSpec → List ℕ → List ℕ → ℕ → Recorded → Bool
host_tells (Encode mode) p t s n want = true
host_tells Reencode p t s n want = eqb (host_reencode_refusal s p t n) (word_of want)

-- ---- the samples that the bytes s are

-- the entry is asked with whole samples, and a mode that there is
abbrev pub is_asked : Way → List ℕ → Bool
is_asked (Encode mode) s = ltb mode 3 && are_whole s
is_asked Reencode s = are_whole s

-- it takes at most 4096 samples, and answers as recorded; where it is not asked, that counts as recorded
abbrev pub entry_writes : Way → PcmSpec → List ℕ → List ℕ → ℕ → Recorded → List ℕ → Bool
entry_writes way p t s spoiled want room =
    let xs = taken 4096 s in
    let lent = marked_bytes room in
    let said = entry_says way p t xs (length lent) in
    cond (is_asked way s) (is_answered said (entry_puts way p t xs lent) spoiled want) true

-- what is in the room then
abbrev pub left_by_entry : Way → PcmSpec → List ℕ → List ℕ → ℕ → List ℕ → List ℕ
left_by_entry way p t s spoiled room =
    let written = entry_puts way p t (taken 4096 s) (marked_bytes room) in
    cond (is_asked way s) (spoiled_bytes spoiled written) room

-- the host boundary answers as recorded, and tells what it refuses
abbrev pub host_writes : Way → PcmSpec → List ℕ → List ℕ → ℕ → Recorded → List ℕ → Bool
host_writes way p t s spoiled want room =
    let lent = marked_bytes room in
    let said = host_says way p t s want (length lent) in
    is_answered said (host_puts way p t s lent) spoiled want && host_tells way p t s (length room) want

-- what is in the room then
abbrev pub left_by_host : Way → PcmSpec → List ℕ → List ℕ → ℕ → List ℕ → List ℕ
left_by_host way p t s spoiled room = spoiled_bytes spoiled (host_puts way p t s (marked_bytes room))

-- both do, one after the other in one room
abbrev pub both_write : Way → PcmSpec → List ℕ → List ℕ → ℕ → Recorded → List ℕ → Bool
both_write way p t s spoiled want room =
    let between = left_by_entry way p t s spoiled room in
    entry_writes way p t s spoiled want room && host_writes way p t s spoiled want between

-- what is in the room at the end
abbrev pub left_by_both : Way → PcmSpec → List ℕ → List ℕ → ℕ → List ℕ → List ℕ
left_by_both way p t s spoiled room = left_by_host way p t s spoiled (left_by_entry way p t s spoiled room)
