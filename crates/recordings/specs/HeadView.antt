-- The header that a `Head` of the code holds.
use Rattle.recordings.specs.Recordings as value
use Rattle.recordings.specs.declared.header.Head.{Head}
use Rattle.recordings.specs.declared.header.Head.TheVariants.{Bad, Bytes, Recorded}

abbrev pub head_value : Head → value.Head
head_value Bytes = value.Bytes
head_value (Bad fault) = value.Bad fault
head_value (Recorded version size has_own_term) = value.Recorded version size.width size.height has_own_term
