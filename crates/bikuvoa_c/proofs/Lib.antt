-- That the numbers in answers fit.
mod FitLaws
-- What a catalogue's entry writes.
mod CataloguedLaws
