-- `partitions::header_ok` meets its contract: the header lies in the first block, which is on the card.
use Rattle.lists.proofs.Prelude.{ap, ◌∙◌}
use Rattle.words.specs.Words.{words}
use Rattle.card.specs.Chains.{blocks_for}
use Rattle.partitions.specs.declared.Header.{Header}
use Rattle.partitions.specs.Formed.{header_rule}
use Rattle.partitions.specs.Headers.{header_words}
use Rattle.partitions.proofs.Headers.{first_block, header-in}
use Rattle.partitions.proofs.header_ok.Goals as goal

pub read_header-requires : goal.read_header-requires
read_header-requires c =
    first_block (words c.args.card.now) c.args.p.first (blocks_for c.args.p.length) c.requires.0 c.requires.1

pub returns : goal.returns
returns c =
    c.header_fits.ensures ∙ ap (λ (h : Header). header_rule c.args.p (header_words h)) c.read_header.ensures
    ∙ header-in (words c.args.card.now) c.args.p c.requires.0 c.requires.1
