use Rattle.std.proofs.Common.{◌≡◌, ◌+◌, drop, map}
use Rattle.recordings.specs.RecordingView.{reading_of}
use Rattle.recordings.specs.Recordings.{lines_read, reading_first}
use Rattle.recordings.proofs.recording.read_lines.Given as goal

abbrev pub invariant-loop-at : goal.invariant-loop-at
invariant-loop-at l =
    lines_read (l.at + 2) (reading_of l.reading) (map (λ line. line.now) (drop l.at l.lines)) ≡ lines_read 2 (reading_first l.fn.version) (map (λ line. line.now) l.lines)
