mod AskedWords
