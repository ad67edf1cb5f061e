use Rattle.images.proofs.TextLaws.{utf8_whole}
use Rattle.images.proofs.texts.is_utf8.Goals as goal

pub returns : goal.returns
returns c = utf8_whole c.args.text.now _ c.valid_to.ensures
