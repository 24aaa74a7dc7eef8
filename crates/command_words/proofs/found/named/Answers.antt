use Rattle.clap.specs.Words.{found_of, rows_of}
use Rattle.command_words.specs.{commands}
use Rattle.command_words.proofs.NameLemmas.{asks_for_none}
use Rattle.command_words.proofs.found.named.Goals as goal

pub returns-in_default-clause-refused : goal.returns-in_default-clause-refused
returns-in_default-clause-refused c = λ _.
    let n = c.in_default in
    asks_for_none c.args.name.now (rows_of (found_of c.args.given.now)) commands (
      n.not-compile,
      (
        n.not-migrate,
        (
          n.not-contract,
          (
            n.not-check,
            (
              n.not-sample,
              (
                n.not-answer,
                (n.not-certify, (n.not-verify, (n.not-few, (n.not-latest, (n.not-text, (n.not-text-2, (n.not-profile, (n.not-matrix, (n.not-requests, tt))))))))),
              ),
            ),
          ),
        ),
      ),
    )
