use Rattle.cweb_store.proofs.SpellingLaw.{spellings_are_squeezed}
use Rattle.cweb_store.proofs.laws.spellings_are_squeezed.Goals as goal

pub returns : goal.returns
returns c = spellings_are_squeezed
