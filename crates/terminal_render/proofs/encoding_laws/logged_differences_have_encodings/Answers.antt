use Rattle.terminal_render.proofs.BehindLemmas.{behind_has}
use Rattle.terminal_render.proofs.LedLemmas.{led_has, led_has_with_title}
use Rattle.terminal_render.proofs.encoding_laws.logged_differences_have_encodings.Goals as goal

pub returns-clause-led : goal.returns-clause-led
returns-clause-led c = led_has

pub returns-clause-titled : goal.returns-clause-titled
returns-clause-titled c = led_has_with_title

pub returns-clause-behind : goal.returns-clause-behind
returns-clause-behind c = behind_has
