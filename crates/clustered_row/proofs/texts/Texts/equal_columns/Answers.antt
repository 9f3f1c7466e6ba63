use Rattle.clustered_row.proofs.EqualLemmas.{same_faces, text_of_cut, whole_position}
use Rattle.clustered_row.proofs.texts.Texts.equal_columns.Goals as goal

pub returns-clause-equal : goal.returns-clause-equal
returns-clause-equal c =
    let cut = c.args.self.now.cut in
    let other = c.args.other.now.cut in
    let found = c.equal_position.ensures in
    same_faces cut.text.items other.text.items cut.sizes.items other.sizes.items c.equal_position.result (text_of_cut cut) (text_of_cut other) found.position found.other_position found.text found.sizes

pub returns-clause-whole : goal.returns-clause-whole
returns-clause-whole c =
    let cut = c.args.self.now.cut in
    whole_position cut.text.items cut.sizes.items c.equal_position.result (text_of_cut cut) c.equal_position.ensures.position

pub returns-clause-other_whole : goal.returns-clause-other_whole
returns-clause-other_whole c =
    let cut = c.args.other.now.cut in
    whole_position cut.text.items cut.sizes.items c.equal_position.result (text_of_cut cut) c.equal_position.ensures.other_position
