use Rattle.cell_base.proofs.LawfulScreens.{new_screen_is, scrolled_is, line_feed_is, carriage_return_is, write_columns_is, put_is}
use Rattle.cell_base.proofs.row_laws.screens_stay_lawful.Goals as goal

pub returns-clause-new : goal.returns-clause-new
returns-clause-new c = new_screen_is

pub returns-clause-scrolled : goal.returns-clause-scrolled
returns-clause-scrolled c = scrolled_is

pub returns-clause-line_feed : goal.returns-clause-line_feed
returns-clause-line_feed c = line_feed_is

pub returns-clause-carriage_return : goal.returns-clause-carriage_return
returns-clause-carriage_return c = carriage_return_is

pub returns-clause-written : goal.returns-clause-written
returns-clause-written c = write_columns_is

pub returns-clause-put : goal.returns-clause-put
returns-clause-put c = put_is
