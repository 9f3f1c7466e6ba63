use Rattle.csi_codec.proofs.TextSteps.{table_digits}
use Rattle.csi_codec.proofs.text.digits.Goals as goal

pub returns : goal.returns
returns c = table_digits c.args.number c.ranges.number.fits
