pub mod Requests
pub use Requests.{Request, small_number_of_word, format_or, days_and_format, keep_or_none, size_of_word, window_of, window_or_two_hours, most_places, limit_or_none, limits_of, two_at, days_and_format_at, places_at, limits_at, compile_at, migrate_at, contract_at, check_at, sample_at, answer_at, certify_at, verify_at, few_at, latest_at, certify_latest_at, verify_latest_at, profile_at, asking_at, matrix_at, requests_at, commands, request_at, AsksFor, AreRefused, IsPlainForm, compile, migrate, contract, answer, certify, verify, check, sample, latest, certify_latest, verify_latest, few, profile, matrix, requests}
