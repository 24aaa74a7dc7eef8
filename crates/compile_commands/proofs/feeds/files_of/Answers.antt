use Rattle.plan_base.proofs.Common.{◌∙◌, sym, map, option_map}
use Rattle.gtfs_tables.specs.declared.files.FeedFile.TheVariants as file
use Rattle.compile_commands.specs.{feed_files_of, text_of}
use Rattle.compile_commands.proofs.FeedLemmas.{lent_is, same_feed}
use Rattle.compile_commands.proofs.feeds.files_of.Goals as goal

pub returns : goal.returns
returns c = λ caps.
    let texts = map (option_map (λ bytes. bytes.items)) c.args.texts.now in
    same_feed caps _ (feed_files_of texts)
    (c.text_of.ensures ∙ sym (lent_is (text_of texts file.Agency)))
    (c.text_of-2.ensures ∙ sym (lent_is (text_of texts file.Stops)))
    (c.text_of-3.ensures ∙ sym (lent_is (text_of texts file.Routes)))
    (c.text_of-4.ensures ∙ sym (lent_is (text_of texts file.Calendar)))
    (c.text_of-5.ensures ∙ sym (lent_is (text_of texts file.CalendarDates)))
    (c.text_of-6.ensures ∙ sym (lent_is (text_of texts file.Trips)))
    (c.text_of-7.ensures ∙ sym (lent_is (text_of texts file.Frequencies)))
    (c.text_of-8.ensures ∙ sym (lent_is (text_of texts file.StopTimes)))
