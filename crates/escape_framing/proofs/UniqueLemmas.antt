-- A stream has one cut: the plain reading of joined segments and an unfinished tail gives exactly these.
use Rattle.std.proofs.Common.{◌≡◌, ℕ, List, [], ◌∷◌, ◌++◌, sym, ap, ◌∙◌, append_assoc}
use Rattle.std.specs.List.{flat_map}
use Rattle.escape_framing.specs.Segment.{Tail, Begun, OpenEscape, OpenControlSequence, OpenCommand, OpenHeader, OpenDevice, OpenString, bytes_of_tail, Segment, Character, IllFormed, Control, Escape, ControlSequence, OperatingSystemCommand, DeviceControl, String, CutOff, bytes_of, IsUnfinished, IsSegment, StandInRow, IsCut}
use Rattle.escape_framing.specs.Decode.{Reading, read_on}
use Rattle.escape_framing.specs.Cut.{the_cut, tail_of}
use Rattle.escape_framing.proofs.Existence.Utf8Lemmas.{append_nil}
use Rattle.escape_framing.proofs.ReadLemmas.{after, read_nil}
use Rattle.escape_framing.proofs.CharacterReading.{reads_begun, reads_character, reads_control, reads_ill_formed}
use Rattle.escape_framing.proofs.SequenceReading.{reads_whole_escape, reads_whole_control_sequence, reads_whole_command, reads_whole_device, reads_whole_string, reads_escape, reads_control_sequence, reads_command, reads_header, reads_device, reads_string, cut_off, ends_at}
use Rattle.escape_framing.specs.Bytes.{is_cut}

-- the bytes of an unfinished tail read as this tail
pub reads_tail : (t : Tail) (rest : List ℕ) → IsUnfinished t → read_on (Begun []) (bytes_of_tail t ++ rest) ≡ read_on t rest
reads_tail (Begun bytes) rest g = reads_begun bytes rest g
reads_tail (OpenEscape body) rest g = reads_escape body rest g
reads_tail (OpenControlSequence o body) rest g = reads_control_sequence o body rest g
reads_tail (OpenCommand o body) rest g = reads_command o body rest g
reads_tail (OpenHeader o header) rest g = reads_header o header rest g
reads_tail (OpenDevice o header f body) rest g = reads_device o header f body rest g
reads_tail (OpenString o x body) rest g = reads_string o x body rest g

reads_cut_off : (t : Tail) (f : List ℕ) → IsSegment (CutOff t) f → read_on (Begun []) (bytes_of (CutOff t) ++ f) ≡ after (CutOff t) (read_on (Begun []) f)
reads_cut_off t f g = reads_tail t f g.0 ∙ ends_at t (CutOff t) is_cut f g.2 (λ b k. cut_off t b g.1 k)

-- the bytes of a segment read as this segment, before bytes that it may come before
pub reads_segment : (s : Segment) (f : List ℕ) → IsSegment s f → read_on (Begun []) (bytes_of s ++ f) ≡ after s (read_on (Begun []) f)
reads_segment (Character c) f h = reads_character c f h
reads_segment (IllFormed p) f h = reads_ill_formed p f h
reads_segment (Control b) f h = reads_control b f h
reads_segment (Escape body final) f h = reads_whole_escape body final f h
reads_segment (ControlSequence o body final) f h = reads_whole_control_sequence o body final f h
reads_segment (OperatingSystemCommand o body ender) f h = reads_whole_command o body ender f h
reads_segment (DeviceControl o header final body) f h = reads_whole_device o header final body f h
reads_segment (String o x body) f h = reads_whole_string o x body f h
reads_segment (CutOff t) f h = reads_cut_off t f h

pub reads_row : (ss : List Segment) (t : Tail) → StandInRow ss (bytes_of_tail t) → IsUnfinished t → read_on (Begun []) (flat_map bytes_of ss ++ bytes_of_tail t) ≡ record { segments = ss; tail = t }
reads_row [] t h g = ap (read_on (Begun [])) (sym (append_nil (bytes_of_tail t))) ∙ reads_tail t [] g ∙ read_nil t
reads_row (s ∷ ss) t h g =
    ap (read_on (Begun [])) (append_assoc (bytes_of s) (flat_map bytes_of ss) (bytes_of_tail t))
    ∙ reads_segment s (flat_map bytes_of ss ++ bytes_of_tail t) h.0
    ∙ ap (after s) (reads_row ss t h.1 g)

-- each cut of a stream is the cut of the stream
pub same_cut : (stream : List ℕ) (segments : List Segment) (tail : Tail) → IsCut stream segments tail → (segments ≡ (the_cut stream).segments) × (tail ≡ tail_of stream)
unfolding the_cut
same_cut stream segments tail c =
    let e = sym (ap (read_on (Begun [])) c.joined ∙ reads_row segments tail c.each c.unfinished) in
    (ap (λ (r : Reading). r.segments) e, ap (λ (r : Reading). r.tail) e)
