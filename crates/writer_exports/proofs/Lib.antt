mod StateLaws
