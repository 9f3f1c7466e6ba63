use Rattle.terminal.proofs.driver.forget.Goals as goal

pub returns : goal.returns
returns g c = record {
  lighter = record {
    forgotten = c.forget_before.new.self;
    goes = c.forget_before.ensures.done c.requires.sound;
    dropped = c.take_replies-replies.ensures.none;
  };
}
