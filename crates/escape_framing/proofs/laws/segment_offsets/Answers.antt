use Rattle.escape_framing.proofs.SegmentOffsets.{all_segments, each_segment, length-seven_bit}
use Rattle.escape_framing.proofs.laws.segment_offsets.Goals as goal

pub returns-clause-all : goal.returns-clause-all
returns-clause-all c = all_segments

pub returns-clause-placed : goal.returns-clause-placed
returns-clause-placed c = each_segment

pub returns-clause-same_length : goal.returns-clause-same_length
returns-clause-same_length c = length-seven_bit
