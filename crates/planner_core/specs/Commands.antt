-- What each command says of a run by its outcome.
use Rattle.plan_base.specs.{Caps}
use Rattle.command_words.specs.{Request, compile, migrate, contract, answer, certify, verify, check, sample, latest, certify_latest, verify_latest, few, profile, matrix, requests}
use Rattle.run_steps.specs.{Saying}
use Rattle.compile_commands.specs.{SaysCompile, SaysMigrate}
use Rattle.hierarchy_commands.specs.{SaysCheck, SaysContract}
use Rattle.answer_commands.specs.{SaysAnswer, SaysCertify, SaysVerify}
use Rattle.sample_command.specs.{SaysSample}
use Rattle.request_commands.specs.{SaysRequests}
use Rattle.late_commands.specs.{SaysFew, SaysLatest, SaysProfile, SaysCertifyLatest, SaysVerifyLatest}
use Rattle.matrix_commands.specs.{SaysMatrix}

-- What a run says that was asked for this: `compile` writes the region of a map and a feed over some days, in a format, and `migrate` a region in another one; `contract` writes a hierarchy of
-- the region's road layers; `answer` writes a right block for each query line of a file, in order, and with a hierarchy how many labels its searches had; `certify` a certificate for a query
-- line; `verify` what the certificate of a file shows; `check` that the hierarchy of a file is sound; `sample` the summary of a made city. `few`, `latest` and `profile` write
-- other right blocks for the query lines of a file, `matrix` how long it takes from each endpoint of a file to each one of another, and `requests` a reply to each line, by the
-- command that it begins with.
abbrev pub says : Caps → Request → Saying
says caps (compile map feed days format) = SaysCompile caps map feed days format
says caps (migrate region format) = SaysMigrate caps region format
says caps (contract region keep) = SaysContract caps region keep
says caps (answer region queries hierarchy labels places) = SaysAnswer caps (record { places = places; labels = labels }) region queries hierarchy
says caps (certify region query hierarchy labels places) = SaysCertify caps (record { places = places; labels = labels }) region query hierarchy
says caps (verify region certificate hierarchy) = SaysVerify caps region certificate hierarchy
says caps (check region hierarchy) = SaysCheck caps region hierarchy
says caps (sample size) = SaysSample size
says caps (latest region queries labels places) = SaysLatest caps (record { places = places; labels = labels }) region queries
says caps (certify_latest region query labels places) = SaysCertifyLatest caps (record { places = places; labels = labels }) region query
says caps (verify_latest region certificate) = SaysVerifyLatest caps region certificate
says caps (few region queries places) = SaysFew caps places region queries
says caps (profile region queries window places) = SaysProfile caps places region queries window
says caps (matrix region origins destinations date time expr hierarchy places) = SaysMatrix caps places region origins destinations date time expr hierarchy
says caps (requests region lines hierarchy labels places) = SaysRequests caps (record { places = places; labels = labels }) region lines hierarchy
