-- The kinds of the list's items, by their numbers.
use Rattle.std.specs.Prelude.{ℕ, cond, ◌==◌}
use Rattle.replay_list.specs.declared.kinds.Kind.{Kind}
use Rattle.replay_list.specs.declared.kinds.Kind.TheVariants.{End, FileLength, SamplesLength, PutFile, PutSamples}
use Rattle.replay_list.specs.declared.kinds.Kind.TheVariants.{DrawFile, DrawSamples}
use Rattle.replay_list.specs.declared.kinds.Kind.TheVariants.{KeepWritten, KeepRead, Settings, Open}
use Rattle.replay_list.specs.declared.kinds.Kind.TheVariants.{Decode, Step, Encode}
use Rattle.replay_list.specs.declared.kinds.Kind.TheVariants.{Reencode, ReadFrames, Peaks, Peak, PeaksAll, PeaksCheck}
use Rattle.replay_list.specs.declared.kinds.Kind.TheVariants.{FalseAnswer, SpoiledRoom, Other}

-- the number of each
abbrev pub number_of : Kind → ℕ
number_of End = 0
number_of FileLength = 1
number_of SamplesLength = 2
number_of PutFile = 3
number_of PutSamples = 4
number_of DrawFile = 5
number_of DrawSamples = 6
number_of KeepWritten = 7
number_of KeepRead = 8
number_of Settings = 9
number_of Open = 16
number_of Decode = 17
number_of Step = 18
number_of Encode = 19
number_of Reencode = 20
number_of ReadFrames = 21
number_of Peaks = 22
number_of Peak = 23
number_of PeaksAll = 24
number_of PeaksCheck = 25
number_of FalseAnswer = 32
number_of SpoiledRoom = 33
number_of (Other n) = n

-- the kind of each number
abbrev pub kind_of : ℕ → Kind
kind_of n =
    cond (n == 0) End
    (cond (n == 1) FileLength
    (cond (n == 2) SamplesLength
    (cond (n == 3) PutFile
    (cond (n == 4) PutSamples
    (cond (n == 5) DrawFile
    (cond (n == 6) DrawSamples
    (cond (n == 7) KeepWritten
    (cond (n == 8) KeepRead
    (cond (n == 9) Settings
    (cond (n == 16) Open
    (cond (n == 17) Decode
    (cond (n == 18) Step
    (cond (n == 19) Encode
    (cond (n == 20) Reencode
    (cond (n == 21) ReadFrames
    (cond (n == 22) Peaks
    (cond (n == 23) Peak
    (cond (n == 24) PeaksAll
    (cond (n == 25) PeaksCheck
    (cond (n == 32) FalseAnswer
    (cond (n == 33) SpoiledRoom
    (Other n))))))))))))))))))))))
