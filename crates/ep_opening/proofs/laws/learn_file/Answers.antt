use Rattle.ep_opening.proofs.Known.{file_known}
use Rattle.ep_opening.proofs.laws.learn_file.Goals as goal

pub returns : goal.returns
returns c =
    file_known c.args.file.now c.size-size.result c.generation-generation.result c.opening-opening.result.now c.executed-executed.result.now c.size-size.ensures c.generation-generation.ensures c.opening-opening.ensures c.executed-executed.ensures.value c.learn_size.ensures.least c.learn_size.ensures.most c.learn_generation.ensures c.learn_opening.ensures.fits c.learn_opening.ensures.typed
    c.learn_seal.ensures.begun c.learn_seal.ensures.short c.learn_executed.ensures c.executed-executed.ensures.past
