use Rattle.toy_core.proofs.Dictionaries.{dictionary_by}
use Rattle.toy_core.proofs.header_tree.dictionary_in.Goals as goal

pub returns : goal.returns
returns c = dictionary_by c.args.bytes.now _ c.dictionary.ensures.some c.dictionary.ensures.only
