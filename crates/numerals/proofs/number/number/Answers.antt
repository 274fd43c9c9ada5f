use Rattle.std.proofs.Common.{◌≡◌, rules}
use Rattle.numerals.specs.Numbers.{number_of}
use Rattle.numerals.proofs.Texts.{says_so}
use Rattle.numerals.proofs.number.number.Goals as goal

pub returns-in_default-clause-law : goal.returns-in_default-clause-law
returns-in_default-clause-law c =
    let value : c.positive.result ≡ number_of c.args.text.now = search rules in
    says_so c.args.text.now _ value
