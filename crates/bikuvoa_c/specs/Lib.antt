-- What C gets of a catalogue. (Of the other answers: specs/ of c_answers.)
pub mod Catalogued
